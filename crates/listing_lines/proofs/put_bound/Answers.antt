-- Part behind part, with the two numbers of the answer.
use borrow.Author.Rules.{rules}
use mathlib.Core.Path.{◌≡◌, sym, ap, ◌∙◌}
use lib.IntN.{ℤ}
use mir.Syntax.{w64}
use mir.ValLaws.{to_z-of_z}
use Rattle.std.specs.Prelude.{Result}
use Rattle.numbers.specs.Text.{bytes}
use Rattle.calls.specs.Calls.{bounds_returned}
use Rattle.calls.specs.declared.Bounds.{Bounds}
use Rattle.calls.specs.declared.Refusal.{Refusal}
use Rattle.pages.specs.Lines.{named}
use Rattle.pages.proofs.Laws.{then, then_named, puts_as}
use Rattle.pages.proofs.Numbers.{named_put}
use Rattle.listing_lines.proofs.put_bound.Goals.{in-Ok, in-Err}
use Rattle.listing_lines.proofs.put_bound.Goals as goal

pub returns : goal.returns
returns c =
    let m : ℤ × ℤ = c.match-answer.least in
    let p = bounds_returned c.args.answer in
    let least_of = λ (a : Result Bounds Refusal). (bounds_returned a).least in
    let greatest_of = λ (a : Result Bounds Refusal). (bounds_returned a).greatest in
    let first_is = λ (n : ℤ × ℤ). n.0 in
    let second_is = λ (n : ℤ × ℤ). n.1 in
    let numbers : (m.0 ≡ p.least) × (m.1 ≡ p.greatest) = elim c.match-answer.branch [
      | in-Ok w ↦ (
        ap first_is w.least-is ∙ to_z-of_z w64 w.number_of.result (search rules) ∙ w.number_of.ensures ∙ sym (ap least_of w.in-Ok.is),
        ap second_is w.least-is ∙ to_z-of_z w64 w.number_of-in-Ok.result (search rules) ∙ w.number_of-in-Ok.ensures ∙ sym (ap greatest_of w.in-Ok.is),
      )
      | in-Err w ↦ (ap first_is w.least-is ∙ sym (ap least_of w.in-Err.is), ap second_is w.least-is ∙ sym (ap greatest_of w.in-Err.is))
    ] in
    let first = then c.put_bytes.ensures c.put_number.ensures in
    let least = puts_as (ap (named (bytes " ")) numbers.0) (named_put (bytes " ") m.0 (search rules) c.put_named.ensures) in
    let greatest = puts_as (ap (named (bytes " ")) numbers.1) (named_put (bytes " ") m.1 (search rules) c.put_named-2.ensures) in
    then (then_named (bytes " ") p.greatest (then_named (bytes " ") p.least first least) greatest) c.put_bytes-2.ensures
