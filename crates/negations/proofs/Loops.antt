-- The negated causes from a place on: a place whose atom has a literal among the rows has one more than the next place, and another as
-- many. So the number found so far and those from here on make up all, and so do the numbers written and those from here on.
use mathlib.Core.Path.{◌≡◌, refl, sym, ◌∙◌, ap}
use mathlib.Core.Bool.{true, false}
use mathlib.Core.List.{List, [], ◌∷◌, ◌++◌, map, append-nil, append_assoc}
use Prim.Native.Nat.{ℕ, ◌+◌, ◌<◌, ◌≤◌}
use native.Mathlib.Omega.{arith}
use native.Mathlib.Numerals.{add-one}
use lib.IntN.{ℤ, neg_ℤ}
use lib.ListN.{length, get_or, take, drop, set, take-append-drop, length-set, length-map}
use lib.Seq.{take-suc-set, drop-set-lt, drop-drop}
use Rattle.std.specs.Prelude.{Option, Some, None}
use Rattle.std.specs.Option.{is_some}
use Rattle.meaning.specs.Merge.{scope}
use Rattle.book.specs.Rows.{pick, causes}
use Rattle.area.specs.Layout.{merged_at, rule_at}
use Rattle.extremes.specs.Inner.Stored.{EvaluateReady}
use Rattle.causes.specs.Inner.Causes.{before}
use Rattle.causes.proofs.Places.{scope_length, causes_next, causes_end, causes_few}
use Rattle.negations.specs.Inner.Negations.{negations, NegationAt, overwritten}

-- those from a place on
abbrev pub negations_from : List ℕ → ℕ → ℕ → ℕ → ℕ → ℕ → List ℤ
negations_from w n S b limit i = map neg_ℤ (causes (before w n limit) (drop i (scope (rule_at w n S b))))

-- so many were found before place i
abbrev pub Counted : List ℕ → ℕ → ℕ → ℕ → ℕ → ℕ → ℕ → Type 0
Counted w n S b limit i found = found + length (negations_from w n S b limit i) ≡ length (negations w n S b limit)

-- those before place i are written from `start` on, up to `at`
pub record Writing (w : List ℕ) (n S b limit start : ℕ) (old : List ℤ) (i at : ℕ) (list : List ℤ) : Type 0 where
  pub size : length list ≡ length old
  pub end : at + length (negations_from w n S b limit i) ≡ start + length (negations w n S b limit)
  pub front : take at list ++ negations_from w n S b limit i ≡ take start old ++ negations w n S b limit
  pub rest : drop at list ≡ drop at old

module _ {w : List ℕ} {n S b : ℕ} where
  pub writing_starts : {limit start : ℕ} {old : List ℤ} → Writing w n S b limit start old 0 start old
  writing_starts = record { size = refl; end = refl; front = refl; rest = refl }

  module _ (ready : EvaluateReady w n S b) (limit : ℕ) where
    abbrev sc : List ℕ
    sc = scope (rule_at w n S b)

    abbrev from : ℕ → List ℤ
    from i = negations_from w n S b limit i

    pub few : length (negations w n S b limit) ≤ merged_at w b + 1
    few = omega (arith, length-map (causes (before w n limit) sc) neg_ℤ, causes_few (before w n limit) sc, scope_length w n S b ready)

    past : (i : ℕ) → merged_at w b < i → from i ≡ []
    past i h = ap {A = List ℤ} (map neg_ℤ) (causes_end (before w n limit) sc i (omega (arith, scope_length w n S b ready)))

    pub counted_ends : (i found : ℕ) → merged_at w b < i → Counted w n S b limit i found → found ≡ length (negations w n S b limit)
    counted_ends i found h e = omega (arith, e, ap {A = List ℤ} length (past i h))

    pub writing_ends : {start i at : ℕ} {old list : List ℤ} → merged_at w b < i → Writing w n S b limit start old i at list
        → list ≡ overwritten old start (negations w n S b limit)
    writing_ends {start} {i} {at} {old} {list} h x =
        let e : at ≡ start + length (negations w n S b limit) = omega (arith, x.end, ap {A = List ℤ} length (past i h)) in
        sym (take-append-drop at list)
        ∙ ap {A = List ℤ} (λ l. l ++ drop at list)
        (sym (append-nil (take at list)) ∙ ap {A = List ℤ} (λ l. take at list ++ l) (sym (past i h)) ∙ x.front)
        ∙ ap {A = List ℤ} (λ l. take start old ++ negations w n S b limit ++ l) (x.rest ∙ ap {A = ℕ} (λ m. drop m old) e)

    -- ---- one place

    module _ (i : ℕ) (inside : i ≤ merged_at w b) where
      next : from i ≡ map neg_ℤ (pick (before w n limit) (get_or sc i 0) (causes (before w n limit) (drop (i + 1) sc)))
      next = ap {A = List ℤ} (map neg_ℤ) (causes_next (before w n limit) sc i (omega (arith, scope_length w n S b ready)))

      not_here : NegationAt w n (get_or sc i 0) limit None → from i ≡ from (i + 1)
      not_here off = next ∙ ap {A = List ℤ} (map neg_ℤ) (off (causes (before w n limit) (drop (i + 1) sc)))

      found_here : (z : ℤ) → NegationAt w n (get_or sc i 0) limit (Some z) → from i ≡ z ∷ from (i + 1)
      found_here z at_place = next ∙ at_place (causes (before w n limit) (drop (i + 1) sc))

      pub counted_more : (found : ℕ) (r : Option ℤ) → NegationAt w n (get_or sc i 0) limit r → is_some r ≡ true → Counted w n S b limit i found
          → Counted w n S b limit (i + 1) (found + 1)
      counted_more found None off t e = cc
      counted_more found (Some z) at_place t e = omega (arith, e, ap {A = List ℤ} length (found_here z at_place))

      pub counted_same : (found : ℕ) (r : Option ℤ) → NegationAt w n (get_or sc i 0) limit r → is_some r ≡ false → Counted w n S b limit i found
          → Counted w n S b limit (i + 1) found
      counted_same found None off t e = omega (arith, e, ap {A = List ℤ} length (not_here off))
      counted_same found (Some z) at_place t e = cc

      module _ {start at : ℕ} {old list : List ℤ} (x : Writing w n S b limit start old i at list) where
        pub writing_same : NegationAt w n (get_or sc i 0) limit None → Writing w n S b limit start old (i + 1) at list
        writing_same off = record {
          size = x.size;
          end = omega (arith, x.end, ap {A = List ℤ} length (not_here off));
          front = ap {A = List ℤ} (λ l. take at list ++ l) (sym (not_here off)) ∙ x.front;
          rest = x.rest;
        }

        module _ (fits : start + length (negations w n S b limit) ≤ length old) (z : ℤ) (at_place : NegationAt w n (get_or sc i 0) limit (Some z)) where
          pub room_here : at < length list
          room_here = omega (arith, fits, x.size, x.end, ap {A = List ℤ} length (found_here z at_place))

          pub writing_more : Writing w n S b limit start old (i + 1) (at + 1) (set list at z)
          writing_more = record {
            size = length-set list at z ∙ x.size;
            end = omega (arith, x.end, ap {A = List ℤ} length (found_here z at_place));
            front =
                ap {A = ℕ} (λ m. take m (set list at z) ++ from (i + 1)) (add-one at)
                ∙ ap {A = List ℤ} (λ l. l ++ from (i + 1)) (take-suc-set list at z room_here)
                ∙ append_assoc (take at list) (z ∷ []) (from (i + 1))
                ∙ ap {A = List ℤ} (λ l. take at list ++ l) (sym (found_here z at_place))
                ∙ x.front;
            rest = drop-set-lt (at + 1) list at z (omega arith) ∙ sym (drop-drop 1 at list) ∙ ap {A = List ℤ} (drop 1) x.rest ∙ drop-drop 1 at old;
          }
