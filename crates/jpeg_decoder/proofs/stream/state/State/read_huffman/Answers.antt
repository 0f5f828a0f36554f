use Rattle.jpeg_decoder.proofs.stream.state.State.read_huffman.Goals as goal

pub invariant_of-said : goal.invariant_of-said
invariant_of-said g c = c.read_huffman_tables.ensures.classes c.said.invariant
