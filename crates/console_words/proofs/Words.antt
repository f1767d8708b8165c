-- Along a line: blanks are passed over, and a word goes up to the next blank.
use Rattle.std.proofs.Common.{◌≡◌, refl, sym, ◌∙◌, ℕ, suc, ◌-◌, ◌<◌, ◌≤◌, arith, Bool, true, false, not, List}
use Rattle.std.proofs.Common.{[], ◌∷◌, ◌++◌, append_assoc, length, take, drop, get_or, one-add, drop-cons, length-take, length-drop, length-append, append-nil}
use Rattle.std.proofs.Math.Seq.{take_all}
use Rattle.std.proofs.Math.ListN.{drop_of_length-le}
use Rattle.std.proofs.lemmas.List.{take-append-drop}
use Rattle.std.proofs.lemmas.List.Sums.{prefix_len-le-length, passes_at_first}
use Rattle.std.proofs.lemmas.Option.{cond_some, none-some}
use Rattle.std.proofs.lemmas.Bool.{ltb-true, ltb-false}
use Rattle.std.specs.Prelude.{Option, Some, None, nat_lt, position, unwrap_or}
use Rattle.std.specs.List.{position_or_len}
use Rattle.console_words.specs.Words.{Word, blank, run, words_from, words}
use Rattle.console_words.specs.Inner.Split.{SplitsWord}

abbrev filled : ℕ → Bool
filled b = not (blank b)

-- ---- blanks

module _ (b : ℕ) (line : List ℕ) where
  on_blank : (t : Bool) → blank b ≡ t → words line ≡ words (drop (position_or_len filled line) line) →
      words (b ∷ line) ≡ words (drop (position_or_len filled (b ∷ line)) (b ∷ line))
  unfolding words_from
  on_blank true e h = rw (e, one-add) h
  on_blank false e h = rw (e, e)

blanks_passed : (line : List ℕ) → words line ≡ words (drop (position_or_len filled line) line)
blanks_passed [] = refl
blanks_passed (b ∷ line) = on_blank b line (blank b) refl (blanks_passed line)

-- ---- the word behind them

run_is : (w : Word) (ws : List Word) → 0 < length w → run w ws ≡ w ∷ ws
run_is [] ws h = let b : ⊥ = omega arith in absurd b
run_is (b ∷ w) ws h = refl

module _ (b : ℕ) (w : Word) (line : List ℕ) (some : 0 < length w) where
  on_run : (t : Bool) → blank b ≡ t →
      words_from (w ++ (b ∷ [])) line ≡ ((w ++ (b ∷ [])) ++ take (position_or_len blank line) line) ∷ words (drop (position_or_len blank line) line) →
      words_from w (b ∷ line) ≡ (w ++ take (position_or_len blank (b ∷ line)) (b ∷ line)) ∷ words (drop (position_or_len blank (b ∷ line)) (b ∷ line))
  unfolding words_from
  on_run true e h = rw (e, e, append-nil) (run_is w _ some)
  on_run false e h = rw (e, one-add) (rw append_assoc at h)

run_grows : (w : Word) (line : List ℕ) → 0 < length w →
    words_from w line ≡ (w ++ take (position_or_len blank line) line) ∷ words (drop (position_or_len blank line) line)
unfolding words_from
run_grows w [] some = rw append-nil (run_is w [] some)
run_grows w (b ∷ line) some = on_run b w line some (blank b) refl (run_grows (w ++ (b ∷ [])) line (omega (arith, length-append w (b ∷ []))))

-- a line that begins with a word
word_first : (b : ℕ) (line : List ℕ) → blank b ≡ false →
    words (b ∷ line) ≡ take (position_or_len blank (b ∷ line)) (b ∷ line) ∷ words (drop (position_or_len blank (b ∷ line)) (b ∷ line))
unfolding words_from
word_first b line e = rw (e, one-add) (run_grows (b ∷ []) line (omega arith))

module _ (b : ℕ) (bs : List ℕ) {xs : List ℕ} (is : xs ≡ b ∷ bs) (e : blank b ≡ false) where
  word_at : words xs ≡ take (position_or_len blank xs) xs ∷ words (drop (position_or_len blank xs) xs)
  word_at = rw is (word_first b bs e)

  word_some : 0 < length (take (position_or_len blank xs) xs)
  word_some = rw (is, e, one-add) (omega arith)

not_true : (t : Bool) → not t ≡ true → t ≡ false
not_true true e = sym e
not_true false e = refl

-- ---- what the two searches answer

module _ (p : ℕ → Bool) (xs : List ℕ) where
  end_by : (t : Bool) → nat_lt (position_or_len p xs) (length xs) ≡ t → unwrap_or (position p xs) (length xs) ≡ position_or_len p xs
  end_by true e = rw e
  end_by false e = rw e (omega (arith, ltb-false _ _ e, prefix_len-le-length (λ x. not (p x)) xs))

  end_is : unwrap_or (position p xs) (length xs) ≡ position_or_len p xs
  end_is = end_by (nat_lt (position_or_len p xs) (length xs)) refl

  pub end_fits : unwrap_or (position p xs) (length xs) ≤ length xs
  end_fits = omega (arith, end_is, prefix_len-le-length (λ x. not (p x)) xs)

  none_by : (t : Bool) → nat_lt (position_or_len p xs) (length xs) ≡ t → None ≡ position p xs → length xs ≤ position_or_len p xs
  none_by true e h = let b : ⊥ = none-some (position_or_len p xs) (h ∙ rw e) in absurd b
  none_by false e h = ltb-false _ _ e

  none_is : None ≡ position p xs → length xs ≤ position_or_len p xs
  none_is = none_by (nat_lt (position_or_len p xs) (length xs)) refl

pub no_word : (line : List ℕ) → None ≡ position filled line → words line ≡ []
unfolding words_from
no_word line e = blanks_passed line ∙ rw (drop_of_length-le line (none_is filled line e))

module _ (line : List ℕ) {i : ℕ} (e : Some i ≡ position filled line) where
  inside : (i < length line) × (position_or_len filled line ≡ i)
  inside = let h = cond_some _ _ _ (sym e) in (let k = h.1 in omega (arith, ltb-true _ _ h.0), h.1)

  begins : drop i line ≡ get_or line i 0 ∷ drop (suc i) line
  begins = drop-cons line i 0 inside.0

  no_blank : blank (get_or line i 0) ≡ false
  no_blank = not_true _ (rw inside.1 at (passes_at_first filled line 0 (omega (arith, inside.0, inside.1))))

  -- the word that begins there, and what stands behind it
  split_there : SplitsWord line (take (position_or_len blank (drop i line)) (drop i line)) (drop (position_or_len blank (drop i line)) (drop i line))
  split_there = record {
    before = take i line;
    line_is = simp (append_assoc, take-append-drop);
    words_are = blanks_passed line ∙ rw inside.1 (word_at _ _ begins no_blank);
    some = word_some _ _ begins no_blank;
    fits = simp (length-take, length-drop) (omega arith);
  }

  behind : take (length line - i) (drop i line) ≡ drop i line
  behind = take_all (length line - i) (drop i line) (simp length-drop (omega arith))

  pub split_is : {m : Option ℕ} {j : ℕ} {word rest : List ℕ} → m ≡ position blank (take (length line - i) (drop i line)) →
      j ≡ unwrap_or m (length (take (length line - i) (drop i line))) → word ≡ take j (take (length line - i) (drop i line)) →
      rest ≡ drop j (take (length line - i) (drop i line)) → SplitsWord line word rest
  split_is {m} {j} p q w r =
      let e : j ≡ position_or_len blank (drop i line) = q ∙ rw (p, behind) (end_is blank (drop i line)) in
      rw (w, r, behind, e) split_there
