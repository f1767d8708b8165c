-- Word 0 is written, and the words behind it are set to 0.
use Rattle.std.proofs.Common.{◌∙◌, length-set, arith}
use Rattle.std.proofs.Math.Seq.{get_or-set_same, get_or-set_other}
use Rattle.blank.proofs.Blanking.{blank_below}
use Rattle.store.proofs.clear.Goals as goal

pub returns : goal.returns
returns c =
    let a = c.args in
    let b = c.blank_words.ensures in
    record {
      size = b.size ∙ length-set a.area.now 0 a.first;
      first_is = blank_below b 0 (omega arith) ∙ get_or-set_same a.area.now 0 a.first 0 (omega (arith, c.requires.0, c.requires.1));
      blank = b.zeros;
      above = λ j h. b.above j h ∙ get_or-set_other a.area.now 0 j a.first 0 (λ q. omega (arith, c.requires.0));
    }
