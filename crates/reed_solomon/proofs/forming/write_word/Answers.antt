-- What is left to show of `write_word`.
use Rattle.reed_solomon.proofs.Register.{formed}
use Rattle.reed_solomon.proofs.forming.write_word.Goals as goal

pub returns : goal.returns
returns c =
    formed c.args.message.now c.args.line.now c.copy_from_slice.new.self c.divide.new.tail
    c.told-message c.told-line c.copy_from_slice.ensures.after c.divide.ensures
