-- What an aggregate sentence means, over full assignments (document 01, 'Sentences and their meaning'). Nothing here is computed
-- by the propagator: the set is the one that was written, and no bound occurs.
use Rattle.std.specs.Prelude.{◌≡◌, Bool, true, false, not, cond, ◌⊎◌, List, [], ◌∷◌, ℕ, suc, ◌≤◌, ℤ, pos, negsuc, ◌+ℤ◌, ◌*ℤ◌, T}
use Rattle.std.specs.Int.Signed.{le_z}
use Rattle.numbers.specs.Extended.{Extended, below, at, above, le_e, greater, lesser, Direction, further}

-- ---- literals and full assignments

-- the atom of a literal: |l|
abbrev pub atom : ℤ → ℕ
atom (pos a) = a
atom (negsuc a) = suc a

-- the truth of a literal whose atom has the truth b
abbrev pub truth : ℤ → Bool → Bool
truth (pos a) b = b
truth (negsuc a) b = not b

abbrev pub Assignment : Type 0
Assignment = ℕ → Bool

abbrev pub holds : Assignment → ℤ → Bool
holds σ l = truth l (σ (atom l))

-- ---- weighted literals, and the five kinds

pub record Entry : Type 0 where
  pub weight : ℤ
  pub literal : ℤ

abbrev pub entry_atom : Entry → ℕ
entry_atom e = atom e.literal

abbrev pub weights_of : List Entry → List ℤ
weights_of [] = []
weights_of (e ∷ es) = e.weight ∷ weights_of es

-- the weights whose literals are true
abbrev pub chosen : Assignment → List Entry → List ℤ
chosen σ [] = []
chosen σ (e ∷ es) = cond (holds σ e.literal) (e.weight ∷ chosen σ es) (chosen σ es)

pub data Kind : Type 0 where
  sum product count maximum minimum : Kind

abbrev pub total : List ℤ → ℤ
total [] = pos 0
total (w ∷ ws) = w +ℤ total ws

abbrev pub multiplied : List ℤ → ℤ
multiplied [] = pos 1
multiplied (w ∷ ws) = w *ℤ multiplied ws

abbrev pub largest : List ℤ → Extended
largest [] = below
largest (w ∷ ws) = greater (at w) (largest ws)

abbrev pub smallest : List ℤ → Extended
smallest [] = above
smallest (w ∷ ws) = lesser (at w) (smallest ws)

-- the value over some weights; a count's weights are ones
abbrev pub aggregate : Kind → List ℤ → Extended
aggregate sum ws = at (total ws)
aggregate product ws = at (multiplied ws)
aggregate count ws = at (total ws)
aggregate maximum ws = largest ws
aggregate minimum ws = smallest ws

-- the value over no weight
abbrev pub empty : Kind → Extended
empty k = aggregate k []

-- ---- the members of a written set

abbrev pub same : ℤ → ℤ → Bool
same l m = cond (le_z l m) (le_z m l) false

abbrev pub without : ℤ → List Entry → List Entry
without l [] = []
without l (e ∷ es) = cond (same l e.literal) (without l es) (e ∷ without l es)

-- a set holds a member once: a literal written twice counts once, at its first mention
abbrev pub once : List Entry → List Entry
once [] = []
once (e ∷ es) = e ∷ without e.literal (once es)

abbrev pub ones : List Entry → List Entry
ones [] = []
ones (e ∷ es) = record { weight = pos 1; literal = e.literal } ∷ ones es

-- in a count every weight is 1, and a literal written twice counts once; the other kinds take the set as written
abbrev pub members : Kind → List Entry → List Entry
members sum es = es
members product es = es
members count es = once (ones es)
members maximum es = es
members minimum es = es

-- ---- sentences

-- `lower`: bound ≤ value (side 0). `upper`: value ≤ bound (side 1)
pub data Side : Type 0 where
  lower upper : Side

abbrev pub comparison : Side → ℤ → Extended → Bool
comparison lower b v = le_e (at b) v
comparison upper b v = le_e v (at b)

pub record Sentence : Type 0 where
  pub head : ℕ
  pub kind : Kind
  pub side : Side
  pub bound : ℤ
  pub entries : List Entry

unfoldable pub value : Sentence → Assignment → Extended
value s σ = aggregate s.kind (chosen σ (members s.kind s.entries))

-- the head is true exactly if the comparison is
abbrev pub Satisfied : Assignment → Sentence → Type 0
Satisfied σ s = σ s.head ≡ comparison s.side s.bound (value s σ)

-- ---- trails: literals, the last put on first

-- every literal of the trail is true
abbrev pub Agrees : Assignment → List ℤ → Type 0
Agrees σ [] = Unit {0}
Agrees σ (l ∷ t) = (holds σ l ≡ true) × Agrees σ t

-- some full assignment agrees
abbrev pub Consistent : List ℤ → Type 0
Consistent t = (σ : Assignment) × Agrees σ t

-- v is the least (`down`) or the greatest (`up`) value of the sentence over the full assignments that agree with the trail
pub record Furthest (d : Direction) (s : Sentence) (t : List ℤ) (v : Extended) : Type 0 where
  pub bounds : (σ : Assignment) → Agrees σ t → T (further d (value s σ) v)
  pub attained : (σ : Assignment) × Agrees σ t × (value s σ ≡ v)

-- some full assignment that agrees satisfies the sentence
abbrev pub Satisfiable : Sentence → List ℤ → Type 0
Satisfiable s t = (σ : Assignment) × Agrees σ t × Satisfied σ s

abbrev pub Conflicting : Sentence → List ℤ → Type 0
Conflicting s t = (σ : Assignment) → Agrees σ t → ¬ (Satisfied σ s)

-- all full assignments that agree with the trail and satisfy the sentence give the literal
abbrev pub Forces : Sentence → List ℤ → ℤ → Type 0
Forces s t l = (σ : Assignment) → Agrees σ t → Satisfied σ s → holds σ l ≡ true

-- the atom is on the trail, with either sign
abbrev pub On : ℕ → List ℤ → Type 0
On a [] = ⊥
On a (l ∷ t) = (atom l ≡ a) ⊎ On a t

-- a literal of an atom that is not on the trail
pub record Open (t : List ℤ) (l : ℤ) : Type 0 where
  pub literal : 1 ≤ atom l
  pub off : ¬ (On (atom l) t)

-- ---- what a sentence says first

pub data Said : Type 0 where
  silent : Said
  conflict : Said
  forced : ℤ → Said

-- no open literal of the atom is forced
abbrev pub Quiet : Sentence → List ℤ → ℕ → Type 0
Quiet s t a = (l : ℤ) → atom l ≡ a → Open t l → ¬ (Forces s t l)

-- l is open and forced, and the atoms before its own are quiet
abbrev pub FirstForced : Sentence → List ℤ → List ℕ → ℤ → Type 0
FirstForced s t [] l = ⊥
FirstForced s t (a ∷ rest) l = ((atom l ≡ a) × Open t l × Forces s t l) ⊎ (Quiet s t a × FirstForced s t rest l)

-- conflict; or the first forced open literal, in the order of the scope; or nothing
abbrev pub Says : Sentence → List ℤ → List ℕ → Said → Type 0
Says s t scope conflict = Conflicting s t
Says s t scope (forced l) = Satisfiable s t × FirstForced s t scope l
Says s t scope silent = Satisfiable s t × ((l : ℤ) → Open t l → ¬ (Forces s t l))

-- ---- what load's refusals 5 to 7 leave, as far as the meaning needs it

module _ {A : Type 0} (P : A → Type 0) where
  abbrev pub Each : List A → Type 0
  Each [] = Unit {0}
  Each (x ∷ xs) = P x × Each xs

-- no entry is of the atom
abbrev pub Off : ℕ → List Entry → Type 0
Off a es = Each (λ e. ¬ (entry_atom e ≡ a)) es

-- each atom once
abbrev pub DistinctAtoms : List Entry → Type 0
DistinctAtoms [] = Unit {0}
DistinctAtoms (e ∷ es) = Off (entry_atom e) es × DistinctAtoms es

-- a product's weights are at least 1
abbrev pub weighable : Kind → ℤ → Bool
weighable sum w = true
weighable product w = le_z (pos 1) w
weighable count w = true
weighable maximum w = true
weighable minimum w = true

-- whether both signs of an atom may stand in a set of the kind
abbrev pub mixes : Kind → Bool
mixes sum = true
mixes product = false
mixes count = true
mixes maximum = false
mixes minimum = false

-- entries of one atom have one literal
abbrev pub OneSigned : List Entry → Type 0
OneSigned [] = Unit {0}
OneSigned (e ∷ es) = Each (λ x. entry_atom x ≡ entry_atom e → x.literal ≡ e.literal) es × OneSigned es

pub record Admissible (s : Sentence) : Type 0 where
  pub literals : Each (λ e. 1 ≤ entry_atom e) s.entries
  pub weights : Each (λ e. T (weighable s.kind e.weight)) s.entries
  pub headless : Each (λ e. ¬ (entry_atom e ≡ s.head)) s.entries
  pub signs : T (not (mixes s.kind)) → OneSigned s.entries
