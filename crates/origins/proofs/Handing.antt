-- A table with one mark, at a position of the trail: what marking makes of it chooses the origins of the literal there.
use mathlib.Core.Path.{◌≡◌, refl, ◌∙◌, ap}
use mathlib.Core.Logic.{⊎_elim}
use mathlib.Core.List.{List}
use Prim.Native.Nat.{ℕ, zero, suc, ◌<◌, ◌≤◌}
use native.Mathlib.Omega.{arith}
use lib.ListN.{length, get_or, set, replicate, length-set, length-replicate}
use Rattle.area.specs.Layout.{atoms_of, sentences_of, length_of}
use Rattle.trail_check.specs.Inner.Places.{TrailRoom}
use Rattle.trail_check.proofs.Few.{few_places}
use Rattle.whole.proofs.Gives.{ready}
use Rattle.causes.proofs.Gives.{trail_asked}
use Rattle.marking.specs.Inner.Marks.{Marked, Markable, Reached, Adds}
use Rattle.chosen.specs.Inner.Chosen.{chosen_literals}
use Rattle.origins.specs.Inner.Origins.{OriginsAsked, Blank, origins_at, Choice}
use Rattle.marking.proofs.Naming.{mark_set, mark_only}
use Rattle.origins.proofs.Reaching.{chosen_origins}

-- ---- a table without marks

unmarked : (k i : ℕ) → get_or {A = ℕ} (replicate k 0) i 0 ≡ 0
unmarked zero i = refl
unmarked (suc k) zero = refl
unmarked (suc k) (suc i) = unmarked k i

-- ---- one mark

module _ (w : List ℕ) (p : ℕ) (asked : OriginsAsked w p) where
  abbrev n : ℕ
  n = atoms_of w

  abbrev S : ℕ
  S = sentences_of w

  abbrev len : ℕ
  len = length_of w

  few : len ≤ n
  few = few_places w n len asked.whole.trail_right.atoms

  pub room : TrailRoom w n len
  room = (trail_asked asked.lim w asked.counters asked.fitting asked.whole).room

  small : n ≤ 4096
  small = omega (arith, asked.whole.theory.atoms_high, asked.fitting.atoms)

  pub unmarked_blank : Blank w (replicate 4097 0)
  unmarked_blank = record { none = unmarked 4097; room = omega (arith, few, small, length-replicate {A = ℕ} 4097 0) }

  module _ (m₀ : List ℕ) (blank : Blank w m₀) where
    pub inside : p < length m₀
    inside = omega (arith, asked.position, blank.room)

    module _ (m : List ℕ) (same_size : length m ≡ length m₀) where
      pub markable : Markable w n S p m
      markable = record {
        rows = len;
        position = asked.position;
        trail_asked = trail_asked asked.lim w asked.counters asked.fitting asked.whole;
        reasons = λ i l. (asked.whole.reasons i l).few;
        sentence = λ s l. ready asked.lim w asked.counters asked.whole asked.fitting s l;
        room = omega (arith, blank.room);
      }

      pub room_left : len ≤ length m
      room_left = omega (arith, blank.room)

    abbrev table : List ℕ
    table = set m₀ p 1

    sole : (i : ℕ) → Marked table i → i ≡ p
    sole i h = ⊎_elim (λ x. let b : ⊥ = omega (arith, x, blank.none i) in absurd b) (λ e. e) (mark_only m₀ p inside i h)

    pub choice : (m : List ℕ) → Adds (Reached w n S p table) table m → (r : ℕ) → r ≡ length (chosen_literals w n m len) → Choice w p m r
    choice m a r e =
        let are : chosen_literals w n m len ≡ origins_at w p =
        chosen_origins asked.lim w asked.counters asked.whole p asked.position table (mark_set m₀ p inside) sole m a len (omega arith) in
        record { room = room_left m (a.size ∙ length-set m₀ p 1); literals = are; counted = e ∙ ap length are }
