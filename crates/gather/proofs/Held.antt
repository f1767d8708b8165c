-- The entries that the first words of a part hold: one more pair of words is one more entry at the end, and a weight that is written
-- anew changes its entry alone.
use mathlib.Core.Path.{◌≡◌, refl, sym, ap, ◌∙◌}
use mathlib.Core.List.{List, [], ◌∷◌, ◌++◌}
use Prim.Native.Nat.{ℕ, zero, suc, ◌+◌, ◌*◌, ◌≤◌, ◌<◌}
use native.Mathlib.Omega.{arith}
use lib.ListN.{length, get_or, take, set, length-set}
use lib.Seq.{take-set-le, get_or-set_same, get_or-set_other}
use Rattle.meaning.specs.Meaning.{Entry}
use Rattle.area.specs.Layout.{word, entries_of, entry_of}
use Rattle.gather.specs.Inner.Gather.{first_entries}

-- the first pair, and what is behind it

first_pair : (x l : ℕ) (w : List ℕ) (n : ℕ) → first_entries (x ∷ l ∷ w) (suc n) ≡ entry_of x l ∷ first_entries w n
unfolding entries_of
first_pair x l w n = let e : 2 * suc n ≡ suc (suc (2 * n)) = omega arith in ap (λ m. entries_of (take m (x ∷ l ∷ w))) e

word_behind : (x l : ℕ) (w : List ℕ) (n : ℕ) → word (x ∷ l ∷ w) (2 * suc n) ≡ word w (2 * n)
word_behind x l w n = let e : 2 * suc n ≡ suc (suc (2 * n)) = omega arith in ap (word (x ∷ l ∷ w)) e

literal_behind : (x l : ℕ) (w : List ℕ) (n : ℕ) → word (x ∷ l ∷ w) (2 * suc n + 1) ≡ word w (2 * n + 1)
literal_behind x l w n = let e : 2 * suc n + 1 ≡ suc (suc (2 * n + 1)) = omega arith in ap (word (x ∷ l ∷ w)) e

entry_behind : (x l : ℕ) (w : List ℕ) (n : ℕ) → entry_of (word (x ∷ l ∷ w) (2 * suc n)) (word (x ∷ l ∷ w) (2 * suc n + 1)) ≡ entry_of (word w (2 * n)) (word w (2 * n + 1))
entry_behind x l w n = ap (λ a. entry_of a (word (x ∷ l ∷ w) (2 * suc n + 1))) (word_behind x l w n) ∙ ap (entry_of (word w (2 * n))) (literal_behind x l w n)

set_behind : (x l : ℕ) (w : List ℕ) (n z : ℕ) → set (x ∷ l ∷ w) (2 * suc n) z ≡ x ∷ l ∷ set w (2 * n) z
set_behind x l w n z = let e : 2 * suc n ≡ suc (suc (2 * n)) = omega arith in ap (λ m. set (x ∷ l ∷ w) m z) e

-- ---- laws

pub entries_none : (w : List ℕ) → first_entries w 0 ≡ []
unfolding entries_of
entries_none [] = refl
entries_none (x ∷ w) = refl

pub entries_length : (w : List ℕ) (n : ℕ) → 2 * n ≤ length w → length (first_entries w n) ≡ n
entries_length w zero h = ap length (entries_none w)
entries_length [] (suc n) h = absurd (omega arith)
entries_length (x ∷ []) (suc n) h = absurd (omega arith)
entries_length (x ∷ l ∷ w) (suc n) h = ap length (first_pair x l w n) ∙ ap suc (entries_length w n (omega arith))

pub entries_at : (w : List ℕ) (n i : ℕ) (d : Entry) → i < n → 2 * n ≤ length w → get_or (first_entries w n) i d ≡ entry_of (word w (2 * i)) (word w (2 * i + 1))
entries_at w zero i d g h = absurd (omega arith)
entries_at [] (suc n) i d g h = absurd (omega arith)
entries_at (x ∷ []) (suc n) i d g h = absurd (omega arith)
entries_at (x ∷ l ∷ w) (suc n) zero d g h = ap (λ r. get_or r 0 d) (first_pair x l w n)
entries_at (x ∷ l ∷ w) (suc n) (suc i) d g h =
    ap (λ r. get_or r (suc i) d) (first_pair x l w n) ∙ entries_at w n i d (omega arith) (omega arith) ∙ sym (entry_behind x l w i)

pub entries_next : (w : List ℕ) (n : ℕ) → 2 * n + 1 < length w → first_entries w (suc n) ≡ first_entries w n ++ (entry_of (word w (2 * n)) (word w (2 * n + 1)) ∷ [])
entries_next [] n h = absurd (omega arith)
entries_next (x ∷ []) n h = absurd (omega arith)
entries_next (x ∷ l ∷ w) zero h = first_pair x l w 0 ∙ ap (λ r. entry_of x l ∷ r) (entries_none w) ∙ sym (ap (λ r. r ++ (entry_of x l ∷ [])) (entries_none (x ∷ l ∷ w)))
entries_next (x ∷ l ∷ w) (suc n) h = first_pair x l w (suc n) ∙ ap (λ r. entry_of x l ∷ r) (entries_next w n (omega arith))
    ∙ ap (λ r. entry_of x l ∷ (first_entries w n ++ (r ∷ []))) (sym (entry_behind x l w n))
    ∙ ap (λ r. r ++ (entry_of (word (x ∷ l ∷ w) (2 * suc n)) (word (x ∷ l ∷ w) (2 * suc n + 1)) ∷ [])) (sym (first_pair x l w n))

-- a weight written anew
pub entries_set : (w : List ℕ) (n i z : ℕ) → i < n → 2 * n ≤ length w → first_entries (set w (2 * i) z) n ≡ set (first_entries w n) i (entry_of z (word w (2 * i + 1)))
entries_set w zero i z g h = absurd (omega arith)
entries_set [] (suc n) i z g h = absurd (omega arith)
entries_set (x ∷ []) (suc n) i z g h = absurd (omega arith)
entries_set (x ∷ l ∷ w) (suc n) zero z g h = first_pair z l w n ∙ sym (ap (λ r. set r 0 (entry_of z l)) (first_pair x l w n))
entries_set (x ∷ l ∷ w) (suc n) (suc i) z g h = ap (λ v. first_entries v (suc n)) (set_behind x l w i z) ∙ first_pair x l (set w (2 * i) z) n
    ∙ ap (λ r. entry_of x l ∷ r) (entries_set w n i z (omega arith) (omega arith))
    ∙ ap (λ m. entry_of x l ∷ set (first_entries w n) i (entry_of z m)) (sym (literal_behind x l w i))
    ∙ sym (ap (λ r. set r (suc i) (entry_of z (word (x ∷ l ∷ w) (2 * suc i + 1)))) (first_pair x l w n))

-- two words written behind the first n entries
pub entries_added : (w : List ℕ) (n x l : ℕ) → 2 * n + 1 < length w → first_entries (set (set w (2 * n) x) (2 * n + 1) l) (suc n) ≡ first_entries w n ++ (entry_of x l ∷ [])
entries_added w n x l h =
    let a = set w (2 * n) x in
    entries_next (set a (2 * n + 1) l) n (omega (arith, length-set a (2 * n + 1) l, length-set w (2 * n) x))
    ∙ ap (λ r. entries_of r ++ (entry_of (word (set a (2 * n + 1) l) (2 * n)) (word (set a (2 * n + 1) l) (2 * n + 1)) ∷ []))
    (take-set-le (2 * n) a (2 * n + 1) l (omega arith) ∙ take-set-le (2 * n) w (2 * n) x (omega arith))
    ∙ ap (λ y. first_entries w n ++ (entry_of y (word (set a (2 * n + 1) l) (2 * n + 1)) ∷ []))
    (get_or-set_other a (2 * n + 1) (2 * n) l 0 (λ q. omega arith) ∙ get_or-set_same w (2 * n) x 0 (omega arith))
    ∙ ap (λ y. first_entries w n ++ (entry_of x y ∷ [])) (get_or-set_same a (2 * n + 1) l 0 (omega (arith, length-set w (2 * n) x)))
