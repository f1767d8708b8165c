-- A number of a text with its sign.
use Rattle.std.specs.Prelude.{cond, ℤ, pos, neg_ℤ}
use Rattle.opb_grammar.specs.declared.Number.{Number}

abbrev pub signed_of : Number → ℤ
signed_of n = cond n.minus (neg_ℤ (pos n.size)) (pos n.size)
