-- What is known of a sentence that is ready, before the scan, says what the sentence says first, over every trail that the values show; and
-- the word of a forced literal is at least 2. Each case of what the words say is a case of what is known.
use mathlib.Core.Path.{◌≡◌, refl, sym, ap, ◌∙◌, subst}
use mathlib.Core.Bool.{Bool, true, false, not, cond, ◌&&◌}
use mathlib.Core.List.{List, [], ◌∷◌}
use Prim.Native.Nat.{ℕ, ◌+◌, ◌*◌, ◌/◌, ◌%◌, ◌≤◌}
use native.Mathlib.Omega.{arith}
use lib.IntN.{ℤ}
use lib.Dec.{eqb}
use borrow.Author.Tests.{ne_eqb}
use Rattle.meaning.specs.Computed.{free, fixed, first_said}
use Rattle.area.specs.Layout.{head_at, kind_at, upper_at, bound_at, constant_at, written_at, merged_at, entry_at, entry_words, value_at, kind_of}
use Rattle.kinds.specs.declared.Kind.{Kind}
use Rattle.extremes.specs.Inner.Stored.{Shows, EvaluateReady, ExtremesAre}
use Rattle.extremes.specs.Inner.Words.{meant, empty_word}
use Rattle.extremes.proofs.Values.{coded}
use Rattle.extremes.proofs.Contributions.{Legal}
use Rattle.extremes.proofs.Sound.{rule_words, Sound}
use Rattle.extremes.proofs.Stored.{rule_is, sound_at, entries_at, extreme_folds}
use Rattle.evaluate.specs.declared.Said.{Said}
use Rattle.evaluate.specs.declared.Body.{Body}
use Rattle.evaluate.specs.declared.Known.{Known}
use Rattle.evaluate.specs.declared.Known.TheVariants.{Silent, Conflict, Forced, Undecided}
use Rattle.evaluate.specs.Inner.Sentence.{said_of}
use Rattle.evaluate.specs.Inner.Words.{second_word, limit_at, upwards, keeps, head_says, turns_word, wanted_word, scanned, leaves_second, body_says}
use Rattle.evaluate.specs.Inner.Known.{head_known, body_known, known_says, KnownPlaced, KnownIs}
use Rattle.evaluate.proofs.Puts.{wanted_is}
use Rattle.evaluate.proofs.OpenHead.{says_open}
use Rattle.evaluate.proofs.FixedHead.{says_fixed}
use Rattle.evaluate.proofs.Turnings.{turnable_all}

-- ---- the word of a forced literal

abbrev Low : Said → Type 0
Low Said.Silent = Unit {0}
Low Said.Conflict = Unit {0}
Low (Said.Forced l) = 2 ≤ l

low_cond : (b : Bool) (x y : Said) → Low x → Low y → Low (cond b x y)
low_cond true x y p q = p
low_cond false x y p q = q

low_scanned : (k : Kind) (n : ℕ) (u : Bool) (limit e : ℕ) (v : ℕ → ℕ) (words : List ℕ) → Legal k n words → Low (scanned k u limit e v words)
unfolding scanned Legal
low_scanned k n u limit e v [] g = tt
low_scanned k n u limit e v (w ∷ []) g = tt
low_scanned k n u limit e v (w ∷ l ∷ rest) g =
    low_cond (eqb (v (l / 2)) 0 && turns_word k u limit e w) (Said.Forced (wanted_word u (empty_word k) w l)) (scanned k u limit e v rest)
    (wanted_is u (empty_word k) w l g.0.literal).real (low_scanned k n u limit e v rest g.1)

-- ---- the answers

module _ {w : List ℕ} {n S b least greatest : ℕ} (ready : EvaluateReady w n S b) (are : ExtremesAre w n S b (record { least = least; greatest = greatest })) where
  abbrev words : List ℕ
  words = entry_words w (entry_at w n S b) (merged_at w b)

  abbrev v : ℕ → ℕ
  v = value_at w n

  -- the extreme in a direction, of those given, and that the comparison may not have its truth there
  abbrev given : Bool → ℕ
  given u = cond u greatest least

  abbrev undecided : Bool → Bool
  undecided u = not (keeps u (limit_at w b) (given u))

  module _ (k : Kind) (e : meant k ≡ kind_of (kind_at w b)) where
    sound : Sound n k (bound_at w b) (constant_at w b) (head_at w b) words
    sound = sound_at w n S b ready k e

    abbrev Says : Said → Type 0
    Says r = (t : List ℤ) → Shows w n t → first_said (rule_words k (upper_at w b) (bound_at w b) (constant_at w b) (head_at w b) (written_at w b) words) t ≡ said_of r

    answered : (r : Known) → Low (known_says w n r) → KnownPlaced w n S b r → Says (known_says w n r) → KnownIs w n S b r
    answered r low placed f = record {
      said = record { said_is = λ t sh. ap (λ x. first_said x t) (sym (rule_is w n S b k e)) ∙ f t sh; word_low = λ l q. subst Low q low };
      placed = placed;
    }

    pub known_fixed : (u : Bool) → ¬ (v (head_at w b) ≡ 0) → upwards (upper_at w b) (eqb (v (head_at w b) % 2) 1) ≡ u
        → KnownIs w n S b (body_known k u (limit_at w b) (given u) (given (not u)) v w (entry_at w n S b) (merged_at w b))
    known_fixed u z d =
        go (keeps u (limit_at w b) (given u)) refl (keeps u (limit_at w b) (given (not u))) refl (leaves_second k u && keeps u (limit_at w b) (second_word u v words)) refl
      where
        told : Says (body_says k u (limit_at w b) (given u) (given (not u)) v words)
        told t sh =
            rw (d, extreme_folds k ready e are u, extreme_folds k ready e are (not u)) at
            (says_fixed sound (upper_at w b) (written_at w b) v t sh (eqb (v (head_at w b) % 2) 1)
            (sh (head_at w b) sound.head_low sound.head_high ∙ ap (λ c. cond c free (fixed (eqb (v (head_at w b) % 2) 1))) (ne_eqb (v (head_at w b)) 0 z)))

        body : Body
        body = record { kind = k; up = u; limit = limit_at w b; extreme = given u; start = entry_at w n S b; merged = merged_at w b }

        go : (x : Bool) → keeps u (limit_at w b) (given u) ≡ x → (y : Bool) → keeps u (limit_at w b) (given (not u)) ≡ y
            → (s : Bool) → (leaves_second k u && keeps u (limit_at w b) (second_word u v words)) ≡ s → KnownIs w n S b (cond x (cond y Silent (cond s Silent (Undecided body))) Conflict)
        go true p true q s r = answered Silent tt tt (λ t sh. rw (p, q) at (told t sh))
        go true p false q true r = answered Silent tt tt (λ t sh. rw (p, q, r) at (told t sh))
        go true p false q false r =
            answered (Undecided body) (low_scanned k n u (limit_at w b) (given u) v words sound.legal)
            (record { start_is = refl; merged_is = refl; entries = entries_at k ready e; turnable = rw (extreme_folds k ready e are u) at (turnable_all sound u v) })
            (λ t sh. rw (p, q, r) at (told t sh))
        go false p y q s r = answered Conflict tt tt (λ t sh. rw p at (told t sh))

    opened : (upper : Bool) → upper_at w b ≡ upper → v (head_at w b) ≡ 0 → KnownIs w n S b (head_known (undecided (upwards upper false)) (undecided (upwards upper true)) (head_at w b))
    opened upper q z = go (undecided (upwards upper false)) refl (undecided (upwards upper true)) refl
      where
        told : Says (head_says (undecided (upwards upper false)) (undecided (upwards upper true)) (head_at w b))
        told t sh =
            (rw (extreme_folds k ready e are (upwards (upper_at w b) false), extreme_folds k ready e are (upwards (upper_at w b) true)) at
            (says_open sound (upper_at w b) (written_at w b) v t sh z))
            ∙ ap (λ x. said_of (head_says (undecided (upwards x false)) (undecided (upwards x true)) (head_at w b))) q

        go : (x : Bool) → undecided (upwards upper false) ≡ x → (y : Bool) → undecided (upwards upper true) ≡ y → KnownIs w n S b (head_known x y (head_at w b))
        go true p y r = answered (Forced (2 * head_at w b)) (omega (arith, sound.head_low)) (omega arith) (λ t sh. rw p at (told t sh))
        go false p true r = answered (Forced (2 * head_at w b + 1)) (omega (arith, sound.head_low)) (omega arith) (λ t sh. rw (p, r) at (told t sh))
        go false p false r = answered Silent tt tt (λ t sh. rw (p, r) at (told t sh))

  pub known_open : (upper : Bool) → upper_at w b ≡ upper → v (head_at w b) ≡ 0 → KnownIs w n S b (head_known (undecided (upwards upper false)) (undecided (upwards upper true)) (head_at w b))
  known_open = opened (coded (kind_of (kind_at w b))).0 (coded (kind_of (kind_at w b))).1

-- ---- read off an answer

pub known_so : {w : List ℕ} {n S b : ℕ} {r x : Known} → KnownIs w n S b r → r ≡ x → KnownIs w n S b x
known_so {w} {n} {S} {b} h e = subst (KnownIs w n S b) e h
