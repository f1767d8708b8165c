-- The extremes are the least and the greatest of a sentence's value over the full assignments that agree with a trail: each entry alone
-- goes as far as its atom's standing lets it, and atoms are distinct, so that all entries can go so far at once.
-- One argument for every kind and both directions.
use mathlib.Core.Path.{◌≡◌, refl, sym, ◌∙◌, ap, subst}
use mathlib.Core.Bool.{Bool, true, false, not, cond}
use mathlib.Core.List.{List, [], ◌∷◌}
use Prim.Native.Nat.{ℕ}
use lib.IntN.{ℤ}
use lib.Dec.{T, eqb, eqb→eq}
use borrow.Author.Tests.{eq-eqb, ne_eqb}
use Rattle.numbers.specs.Extended.{Extended, le_e, Direction, down, up, further}
use Rattle.meaning.specs.Meaning.{Assignment, atom, Entry, entry_atom, Kind, Sentence, value, Agrees, Consistent, Furthest, Each, weighable}
use Rattle.meaning.specs.Merge.{Merged, Rule, rule_with}
use Rattle.meaning.specs.Computed.{combine, gather, starting, given, Standing, free, fixed, standing_of, reach, extreme_of, extreme}
use Rattle.meaning.specs.Represents.{Off, DistinctAtoms, Represents}
use Rattle.meaning.proofs.Orders.{Proper, combine_proper, given_proper, starting_proper, further_refl, further_antisym, further_combine, furthest_first, furthest_second, furthest_of}
use Rattle.meaning.proofs.Gather.{each_map, gather_same, contribution, merged_gather}
use Rattle.meaning.proofs.Trails.{fixed_agrees, on_fixed, agrees_from, with_atom, with_other, standing_other}

-- ---- the fold is monotone

-- both are proper, and g goes at least as far as f
record Beyond {A : Type 0} (d : Direction) (k : Kind) (f g : A → Extended) (x : A) : Type 0 where
  nearer : Proper k (f x)
  farther : Proper k (g x)
  beyond : T (further d (f x) (g x))

gather_further : {A : Type 0} (d : Direction) (k : Kind) (f g : A → Extended) (v w : Extended) (xs : List A) → Each (Beyond d k f g) xs → Proper k v
    → Proper k w → T (further d v w) → T (further d (gather k f v xs) (gather k g w xs))
unfolding gather
gather_further d k f g v w [] h p q o = o
gather_further d k f g v w (x ∷ xs) h p q o = gather_further d k f g (combine k v (f x)) (combine k w (g x)) xs h.1
    (combine_proper k v (f x) p h.0.nearer) (combine_proper k w (g x) q h.0.farther)
    (further_combine d k v w (f x) (g x) p q h.0.nearer h.0.farther o h.0.beyond)

-- ---- one choice

reach_further : (d : Direction) (g : Bool → Extended) (s : Standing) (b : Bool) → ((c : Bool) → s ≡ fixed c → b ≡ c) → T (further d (g b) (reach d g s))
reach_further d g free true h = furthest_first d (g true) (g false)
reach_further d g free false h = furthest_second d (g true) (g false)
reach_further d g (fixed c) b h = subst (λ x. T (further d (g b) (g x))) (h c refl) (further_refl d (g b))

reach_proper : (k : Kind) (d : Direction) (g : Bool → Extended) (s : Standing) → ((b : Bool) → Proper k (g b)) → Proper k (reach d g s)
reach_proper k d g free p = furthest_of (Proper k) d (g true) (g false) (p true) (p false)
reach_proper k d g (fixed b) p = p b

-- the truth at which the reach is attained
abbrev choice : Direction → (Bool → Extended) → Standing → Bool
choice up g free = not (le_e (g true) (g false))
choice down g free = le_e (g true) (g false)
choice up g (fixed b) = b
choice down g (fixed b) = b

choice_reaches : (d : Direction) (g : Bool → Extended) (s : Standing) → g (choice d g s) ≡ reach d g s
choice_reaches up g free = elim (le_e (g true) (g false)) as (λ c. g (not c) ≡ cond c (g false) (g true)) [ true ↦ refl | false ↦ refl ]
choice_reaches down g free = elim (le_e (g true) (g false)) as (λ c. g c ≡ cond c (g true) (g false)) [ true ↦ refl | false ↦ refl ]
choice_reaches up g (fixed b) = refl
choice_reaches down g (fixed b) = refl

choice_fixed : (d : Direction) (g : Bool → Extended) (s : Standing) (b : Bool) → s ≡ fixed b → choice d g s ≡ b
choice_fixed d g s b e = rw e (elim d as (λ d. choice d g (fixed b) ≡ b) [ down ↦ refl | up ↦ refl ])

-- ---- the assignment that attains an extreme: each entry's atom as its reach has it, and any other as σ has it

module _ (k : Kind) (d : Direction) (t : List ℤ) (σ : Assignment) where
  picked : Entry → Bool
  picked e = choice d (given k e) (standing_of t (entry_atom e))

  attaining : List Entry → Assignment
  attaining [] a = σ a
  attaining (e ∷ es) a = cond (eqb (entry_atom e) a) (picked e) (attaining es a)

  attaining_keeps : (es : List Entry) → Agrees σ t → (a : ℕ) (b : Bool) → standing_of t a ≡ fixed b → attaining es a ≡ b
  unfolding attaining picked
  attaining_keeps [] g a b s = fixed_agrees σ t a b g s
  attaining_keeps (e ∷ es) g a b s = elim (eqb (entry_atom e) a) as (λ x. (T x → entry_atom e ≡ a) → cond x (picked e) (attaining es a) ≡ b)
      [ true ↦ λ same. choice_fixed d (given k e) (standing_of t (entry_atom e)) b (ap (standing_of t) (same tt) ∙ s) | false ↦ λ same. attaining_keeps es g a b s ]
      (eqb→eq (entry_atom e) a)

  attaining_agrees : (es : List Entry) → Agrees σ t → Agrees (attaining es) t
  attaining_agrees es g = agrees_from σ (attaining es) t (λ a o. same a (on_fixed t a o)) g
    where
      same : (a : ℕ) → (b : Bool) × (standing_of t a ≡ fixed b) → attaining es a ≡ σ a
      same a f = attaining_keeps es g a f.0 f.1 ∙ sym (fixed_agrees σ t a f.0 g f.1)

  attaining_at : (es : List Entry) → DistinctAtoms es → Each (λ e. attaining es (entry_atom e) ≡ picked e) es
  unfolding attaining
  attaining_at [] h = tt
  attaining_at (e ∷ es) h =
      (ap (λ b. cond b (picked e) (attaining es (entry_atom e))) (eq-eqb (entry_atom e) (entry_atom e) refl), later es h.0 (attaining_at es h.1))
    where
      later : (xs : List Entry) → Off (entry_atom e) xs → Each (λ x. attaining es (entry_atom x) ≡ picked x) xs → Each (λ x. attaining (e ∷ es) (entry_atom x) ≡ picked x) xs
      later [] n h = tt
      later (x ∷ xs) n h =
          (ap (λ b. cond b (picked e) (attaining es (entry_atom x))) (ne_eqb (entry_atom e) (entry_atom x) (λ q. n.0 (sym q))) ∙ h.0, later xs n.1 h.1)

-- ---- the theorem: for a set that stands for a sentence's own, and a trail, in either direction

pub value_gather : (s : Sentence) (m : Merged) → Represents s m → (σ : Assignment) → value s σ ≡ gather s.kind (contribution s.kind σ) (starting s.kind m.constant) m.entries
value_gather s m r σ = r.same_value σ ∙ merged_gather s.kind m σ r.unmixed

module _ (d : Direction) (s : Sentence) (m : Merged) (t : List ℤ) (r : Represents s m) where
  pub extreme_bounds : (σ : Assignment) → Agrees σ t → T (further d (value s σ) (extreme d (rule_with s m) t))
  unfolding extreme
  extreme_bounds σ g =
      let start : Extended = starting s.kind m.constant in
      rw (value_gather s m r σ) (gather_further d s.kind (contribution s.kind σ) (extreme_of s.kind d t) start start m.entries
      (each_map (λ e. T (weighable s.kind e.weight)) (Beyond d s.kind (contribution s.kind σ) (extreme_of s.kind d t)) m.entries at_entry r.weights)
      (starting_proper s.kind m.constant) (starting_proper s.kind m.constant) (further_refl d start))
    where
      at_entry : (e : Entry) → T (weighable s.kind e.weight) → Beyond d s.kind (contribution s.kind σ) (extreme_of s.kind d t) e
      at_entry e h = record {
        nearer = given_proper s.kind e (σ (entry_atom e)) h;
        farther = reach_proper s.kind d (given s.kind e) (standing_of t (entry_atom e)) (λ b. given_proper s.kind e b h);
        beyond = reach_further d (given s.kind e) (standing_of t (entry_atom e)) (σ (entry_atom e)) (λ b. fixed_agrees σ t (entry_atom e) b g);
      }

  pub extreme_attained : Consistent t → (σ : Assignment) × Agrees σ t × (value s σ ≡ extreme d (rule_with s m) t)
  unfolding extreme picked
  extreme_attained c = (
    τ,
    attaining_agrees s.kind d t c.0 m.entries c.1,
    value_gather s m r τ ∙ gather_same s.kind (contribution s.kind τ) (extreme_of s.kind d t) (starting s.kind m.constant) m.entries
        (each_map (λ e. τ (entry_atom e) ≡ picked s.kind d t c.0 e) (λ e. contribution s.kind τ e ≡ extreme_of s.kind d t e) m.entries
        (λ e h. ap (given s.kind e) h ∙ choice_reaches d (given s.kind e) (standing_of t (entry_atom e)))
        (attaining_at s.kind d t c.0 m.entries r.distinct)),
  )
    where
      τ : Assignment
      τ = attaining s.kind d t c.0 m.entries

pub extreme_furthest : (d : Direction) (s : Sentence) (m : Merged) (t : List ℤ) → Represents s m → Consistent t → Furthest d s t (extreme d (rule_with s m) t)
extreme_furthest d s m t r c = record { bounds = extreme_bounds d s m t r; attained = extreme_attained d s m t r c }

-- a sentence has one least and one greatest value over a trail
pub furthest_unique : (d : Direction) (s : Sentence) (t : List ℤ) (v w : Extended) → Furthest d s t v → Furthest d s t w → v ≡ w
furthest_unique d s t v w f g = further_antisym d v w (half v w f g) (half w v g f)
  where
    half : (v w : Extended) → Furthest d s t v → Furthest d s t w → T (further d v w)
    half v w f g = subst (λ x. T (further d x w)) f.attained.2 (g.bounds f.attained.0 f.attained.1)

-- ---- what does not matter: an atom outside the set, under an assignment and on a trail

pub value_outside : (s : Sentence) (m : Merged) → Represents s m → (σ : Assignment) (a : ℕ) (b : Bool) → Off a m.entries → value s (with_atom σ a b) ≡ value s σ
value_outside s m r σ a b n = value_gather s m r (with_atom σ a b)
    ∙ gather_same s.kind (contribution s.kind (with_atom σ a b)) (contribution s.kind σ) (starting s.kind m.constant) m.entries
    (each_map (λ e. ¬ (entry_atom e ≡ a)) (λ e. contribution s.kind (with_atom σ a b) e ≡ contribution s.kind σ e) m.entries (λ e h. ap (given s.kind e) (with_other σ a b (entry_atom e) h)) n)
    ∙ sym (value_gather s m r σ)

-- the extremes read the standings of the entries' atoms alone
pub extreme_alike : (d : Direction) (r : Rule) (t t' : List ℤ) → Each (λ e. standing_of t (entry_atom e) ≡ standing_of t' (entry_atom e)) r.set.entries
    → extreme d r t ≡ extreme d r t'
unfolding extreme
extreme_alike d r t t' h = gather_same r.kind (extreme_of r.kind d t) (extreme_of r.kind d t') (starting r.kind r.set.constant) r.set.entries
    (each_map _ _ r.set.entries (λ e q. ap (reach d (given r.kind e)) q) h)

pub extreme_outside : (d : Direction) (r : Rule) (l : ℤ) (t : List ℤ) → Off (atom l) r.set.entries → extreme d r (l ∷ t) ≡ extreme d r t
extreme_outside d r l t n = extreme_alike d r (l ∷ t) t (each_map _ _ r.set.entries (λ e h. standing_other l t (entry_atom e) h) n)
