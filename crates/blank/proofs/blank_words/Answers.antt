use Rattle.std.proofs.Common.{◌≡◌, ◌-◌, replicate, rules}
use borrow.Rule.Slice.PartMut.{mid_len}
use Rattle.blank.proofs.Blanking.{blanked}
use Rattle.blank.proofs.blank_words.Goals as goal

pub returns : goal.returns
returns c =
    let e : c.fill.new.self ≡ replicate (c.args.to - c.args.from) 0 = search (rules, mid_len) in
    blanked c.args.words.now c.fill.new.self c.args.from c.args.to c.requires.0 c.requires.1 e
