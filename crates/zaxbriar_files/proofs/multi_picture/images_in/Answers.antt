use Rattle.std.proofs.Common.{rules, ◌≡◌, ◌∙◌, ◌+◌, ◌-◌, length, take, arith, sym}
use Rattle.zaxbriar_files.specs.MultiPicture.{image_of}
use Rattle.zaxbriar_files.proofs.ImageIndexes.{images-pushed}
use Rattle.zaxbriar_files.proofs.multi_picture.images_in.Goals as goal

pub loop-preserved : goal.loop-preserved
loop-preserved c =
    let image : c.image_of.result ≡ image_of c.args.is_little c.args.base (take 16 c.loop.rest.now) = search rules in
    let pushed = images-pushed c.args.is_little c.args.base (c.args.count - c.loop.counter) c.loop.images.items
    c.loop.rest.now c.image_of.result (omega arith) image in
    let less : c.args.count - c.loop.counter - 1 ≡ c.args.count - (c.loop.counter + 1) = omega arith in
    let left : length c.split_at.result.1.now ≡ length c.loop.rest.now - 16 = search rules in
    record {
      made = rw (c.in_ok-push.ensures.items, c.split_at.ensures.back, sym less) (c.loop.invariant.made ∙ sym pushed);
      room = omega (arith, left, c.loop.invariant.room);
    }
