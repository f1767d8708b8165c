-- What a variable without a fault leaves room for.
use mathlib.Core.Path.{◌≡◌, refl, sym}
use mathlib.Core.Bool.{Bool, true, false, cond}
use Prim.Native.Nat.{ℕ, ◌<◌}
use lib.Dec.{leb, ltb}
use borrow.Author.Tests.{leb-false}
use Rattle.std.specs.Prelude.{Some, None}
use Rattle.opb_grammar.specs.declared.State.{State}
use Rattle.opb_grammar.specs.declared.Fault.TheVariants.{Count, TooMany}
use Rattle.opb_grammar.specs.Grammar.{variable_fault}

room_told : (above full : Bool) (n : ℕ) → full ≡ leb 4096 n → cond above (Some Count) (cond full (Some TooMany) None) ≡ None → n < 4096
room_told true full n e h = cc
room_told false true n e h = cc
room_told false false n e h = leb-false 4096 n (sym e)

pub entry_left : (s : State) → variable_fault s ≡ None → s.counts.entries < 4096
unfolding variable_fault
entry_left s h = room_told (ltb s.sizes.variables s.number.size) (leb 4096 s.counts.entries) s.counts.entries refl h
