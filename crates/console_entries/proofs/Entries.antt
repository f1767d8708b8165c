-- Entries, by the next two words.
use Rattle.std.proofs.Common.{◌≡◌, ◌≢◌, refl, sym, ap, ◌∙◌, ℕ, suc, ◌+◌, ◌≤◌, add-one, arith}
use Rattle.std.proofs.Common.{List, [], ◌∷◌, length, drop, drop-drop, length-drop, map}
use Rattle.std.proofs.Math.ListN.{set, drop_of_length-le}
use Rattle.std.proofs.Math.Seq.{sets, set_out}
use Rattle.std.specs.Prelude.{ℤ, Some, None}
use Rattle.meaning.specs.Meaning.{Entry}
use Rattle.console_entries.specs.Entries.{entries_of, all_entries, entry_count, weights_in, literals_in}
use Rattle.console_entries.specs.Inner.Split.{SplitsNumber, NoNumber, SplitsEntry, NoEntry}
use Rattle.console_words.specs.Numbers.{signed_of}
use Rattle.console_words.specs.Words.{Word, words}

module _ (line : List ℕ) where
  by_words : (ws : List Word) → words line ≡ ws → NoNumber line → NoEntry line
  unfolding entries_of all_entries
  by_words [] e h = record { entries_are = ap entries_of e; all_are = λ some. absurd (some e) }
  by_words (w ∷ []) e h = record { entries_are = ap entries_of e; all_are = λ some. ap all_entries e }
  by_words (w ∷ l ∷ ws) e h =
      let none : signed_of w ≡ None = h w (l ∷ ws) e in
      record { entries_are = ap entries_of e ∙ rw none; all_are = λ some. ap all_entries e ∙ rw none }

  pub no_weight : NoNumber line → NoEntry line
  no_weight h = by_words (words line) refl h

  module _ (x : ℤ) (behind : List ℕ) (first : SplitsNumber line x behind) where
    by_next : (ws : List Word) → words behind ≡ ws → NoNumber behind → NoEntry line
    unfolding entries_of all_entries
    by_next [] e h =
        let both : words line ≡ first.word ∷ [] = first.words_are ∙ rw e in
        record { entries_are = ap entries_of both; all_are = λ some. ap all_entries both }
    by_next (l ∷ ws) e h =
        let both : words line ≡ first.word ∷ l ∷ ws = first.words_are ∙ rw e in
        let none : signed_of l ≡ None = h l ws e in
        record { entries_are = ap entries_of both ∙ rw (first.number_is, none); all_are = λ some. ap all_entries both ∙ rw (first.number_is, none) }

    pub no_literal : NoNumber behind → NoEntry line
    no_literal h = by_next (words behind) refl h

    pub entry_split : (y : ℤ) (rest : List ℕ) → SplitsNumber behind y rest → SplitsEntry line x y rest
    unfolding entries_of all_entries
    entry_split y rest second =
        let both : words line ≡ first.word ∷ second.word ∷ words rest = first.words_are ∙ rw second.words_are in
        record {
          shorter = omega (arith, first.shorter, second.shorter);
          entries_are = ap entries_of both ∙ rw (first.number_is, second.number_is);
          all_are = ap all_entries both ∙ rw (first.number_is, second.number_is);
        }

-- ---- counting: n entries are passed, and the others stand in the rest

pub record Counted (line : List ℕ) (n : ℕ) (rest : List ℕ) : Type 0 where
  pub few : n + length rest ≤ length line
  pub entries_are : length (entries_of (words line)) ≡ n + length (entries_of (words rest))
  pub all_are : all_entries (words line) ≡ all_entries (words rest)

pub none_counted : (line : List ℕ) → Counted line 0 line
none_counted line = record { few = omega arith; entries_are = omega arith; all_are = refl }

module _ (line : List ℕ) (n : ℕ) (rest : List ℕ) (so_far : Counted line n rest) where
  pub one_counted : (x y : ℤ) (behind : List ℕ) → SplitsEntry rest x y behind → Counted line (n + 1) behind
  one_counted x y behind next =
      record {
        few = omega (arith, so_far.few, next.shorter);
        entries_are = omega (arith, so_far.entries_are, ap length next.entries_are);
        all_are = so_far.all_are ∙ next.all_are;
      }

  pub all_counted : words rest ≡ [] → Some n ≡ entry_count (words line)
  unfolding entries_of all_entries
  all_counted e =
      let size : length (entries_of (words line)) ≡ n = omega (arith, so_far.entries_are, ap length (ap entries_of e)) in
      rw (so_far.all_are ∙ ap all_entries e, size)

  pub not_counted : {w : Word} {ws : List Word} → words rest ≡ w ∷ ws → NoEntry rest → None ≡ entry_count (words line)
  not_counted next h =
      let some : words rest ≢ [] = λ e. cc in
      rw (so_far.all_are ∙ h.all_are some)

-- ---- the words behind the first ones

module _ (ws vs : List Word) (k : ℕ) (left : vs ≡ drop k ws) where
  pub one_passed : {w : Word} {us : List Word} → vs ≡ w ∷ us → us ≡ drop (k + 1) ws
  one_passed e = sym (sym (drop-drop 1 k ws) ∙ ap (drop 1) (sym left ∙ e))

  pub none_left : (n : ℕ) → k ≤ n → vs ≡ [] → drop n ws ≡ []
  none_left n h e = drop_of_length-le ws (omega (arith, ap length (sym left ∙ e), length-drop k ws))

-- ---- storing: what the rest of a line has to store, from k on, makes the whole column

sets_out : (vs column : List ℤ) (k : ℕ) → length column ≤ k → sets column k vs ≡ column
sets_out [] column k h = refl
sets_out (v ∷ vs) column k h = ap (λ (c : List ℤ). sets c (suc k) vs) (set_out column k v h) ∙ sets_out vs column (suc k) (omega arith)

-- no words stand behind the first five
module _ (line : List ℕ) (at : ℕ) (none : drop 5 (words line) ≡ []) where
  pub no_weights : (column : List ℤ) → column ≡ sets column at (weights_in line)
  unfolding entries_of
  no_weights column = rw none

  pub no_literals : (column : List ℤ) → column ≡ sets column at (literals_in line)
  unfolding entries_of
  no_literals column = rw none

abbrev pub weights_left : List ℕ → List ℤ
weights_left rest = map (λ (e : Entry). e.weight) (entries_of (words rest))

abbrev pub literals_left : List ℕ → List ℤ
literals_left rest = map (λ (e : Entry). e.literal) (entries_of (words rest))

pub record Stored (all_weights all_literals weights literals : List ℤ) (k : ℕ) (rest : List ℕ) : Type 0 where
  pub weights_are : sets weights k (weights_left rest) ≡ all_weights
  pub literals_are : sets literals k (literals_left rest) ≡ all_literals

module _ {all_weights all_literals weights literals : List ℤ} {k : ℕ} {rest : List ℕ} (so_far : Stored all_weights all_literals weights literals k rest) where
  pub one_stored : {x y : ℤ} {behind : List ℕ} → SplitsEntry rest x y behind →
      Stored all_weights all_literals (set weights k x) (set literals k y) (k + 1) behind
  one_stored {x} {y} next = record {
    weights_are = rw add-one (ap (λ (es : List Entry). sets weights k (map (λ (e : Entry). e.weight) es)) (sym next.entries_are) ∙ so_far.weights_are);
    literals_are = rw add-one (ap (λ (es : List Entry). sets literals k (map (λ (e : Entry). e.literal) es)) (sym next.entries_are) ∙ so_far.literals_are);
  }

  -- no entry is left
  pub all_stored : entries_of (words rest) ≡ [] → (weights ≡ all_weights) × (literals ≡ all_literals)
  all_stored e = (
    sym (ap (λ (es : List Entry). sets weights k (map (λ (e : Entry). e.weight) es)) e) ∙ so_far.weights_are,
    sym (ap (λ (es : List Entry). sets literals k (map (λ (e : Entry). e.literal) es)) e) ∙ so_far.literals_are,
  )

  -- no room is left
  pub full : length weights ≤ k → length literals ≤ k → (weights ≡ all_weights) × (literals ≡ all_literals)
  full w l = (sym (sets_out (weights_left rest) weights k w) ∙ so_far.weights_are, sym (sets_out (literals_left rest) literals k l) ∙ so_far.literals_are)
