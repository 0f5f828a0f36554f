-- The ICC profile of a stream, by its parts (ICC.1, Annex B.4).
use Rattle.std.specs.Prelude.{ℕ, ◌==◌, ◌&&◌, nat_le, List, length, filter_map, find, flat_map}
use Rattle.std.specs.Prelude.{Option, Some, None, if◌then◌else◌}
use Rattle.std.specs.List.{list_all, range_with_len}
use Rattle.jpeg_segments.specs.Application.{Chunk}

-- The profile: there where 1 to 254 parts are, each names their number, and they are numbered 1, 2
-- and so on, in any order.
unfoldable pub profile_of : List Chunk → Option (List ℕ)
profile_of chunks =
    let n = length chunks in
    let parts = filter_map (λ k. find (λ c. c.number == k) chunks) (range_with_len 1 n) in
    if nat_le 1 n && (nat_le n 254 && (list_all (λ c. c.count == n) chunks && length parts == n))
    then Some (flat_map (λ c. c.bytes) parts) else None
