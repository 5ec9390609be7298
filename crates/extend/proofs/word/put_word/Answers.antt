-- `put_word` meets its contract. Assumes nothing.
use Rattle.std.proofs.Common.{◌∙◌, arith}
use Rattle.extend.proofs.MoveLaws.{word_put}
use Rattle.extend.proofs.word.put_word.Goals as goal

pub returns : goal.returns
returns c = let a = c.args in
    word_put a.at a.value a.buffer.now c.copy_from_slice.new.self (omega arith) (omega arith) (c.copy_from_slice.ensures.after ∙ c.to_be_bytes.ensures)
