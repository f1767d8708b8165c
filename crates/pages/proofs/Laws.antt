-- Texts put behind one another.
use mathlib.Core.Path.{◌≡◌, refl, sym, ◌∙◌, subst}
use mathlib.Core.List.{List, [], ◌∷◌, ◌++◌, append_assoc, append-nil}
use Prim.Native.Nat.{ℕ, ◌≤◌}
use lib.IntN.{ℤ}
use native.Mathlib.Omega.{arith}
use lib.ListN.{length, take}
use Rattle.numbers.specs.Text.{bytes, decimal, signed_decimal}
use Rattle.pages.specs.declared.Page.{Page}
use Rattle.pages.specs.Page.{Holds, Writes, Puts}
use Rattle.pages.specs.Lines.{named, number_line, pair_line}

writes_then : {p q s : List ℕ} {a b c : ℕ} {xs ys : List ℕ} → Writes p a q b xs → Writes q b s c ys → Writes p a s c (xs ++ ys)
writes_then {p} {q} {s} {a} {b} {c} {xs} {ys} f g = record {
  size = g.size ∙ f.size;
  goes = λ t h. subst (Holds s c) (append_assoc t xs ys) (g.goes (t ++ xs) (f.goes t h));
}

pub then : {p q s : Page} {xs ys : List ℕ} → Puts p q xs → Puts q s ys → Puts p s (xs ++ ys)
then f g = record { same = g.same ∙ f.same; writes = writes_then f.writes g.writes }

-- another spelling of the text
pub puts_as : {p q : Page} {xs ys : List ℕ} → xs ≡ ys → Puts p q xs → Puts p q ys
puts_as {p} {q} e f = subst (Puts p q) e f

-- ---- parts of lines behind a text

pub then_named : {p q s : Page} {xs : List ℕ} (word : List ℕ) (z : ℤ) → Puts p q xs → Puts q s (named word z) → Puts p s (xs ++ word ++ signed_decimal z)
then_named {xs = xs} word z f g = puts_as (sym (append_assoc xs word (signed_decimal z))) (then f g)

pub then_line : {p q s : Page} {xs : List ℕ} (word : List ℕ) (n : ℕ) → Puts p q xs → Puts q s (number_line word n) → Puts p s (xs ++ word ++ decimal n ++ bytes "\n")
then_line {xs = xs} word n f g =
    let e : xs ++ number_line word n ≡ xs ++ word ++ decimal n ++ bytes "\n" = simp append_assoc in
    puts_as e (then f g)

pub then_pair : {p q s : Page} {xs : List ℕ} (word : List ℕ) (m n : ℕ) → Puts p q xs → Puts q s (pair_line word m n)
    → Puts p s (xs ++ word ++ decimal m ++ bytes " " ++ decimal n ++ bytes "\n")
then_pair {xs = xs} word m n f g =
    let e : xs ++ pair_line word m n ≡ xs ++ word ++ decimal m ++ bytes " " ++ decimal n ++ bytes "\n" = simp append_assoc in
    puts_as e (then f g)

-- ---- the start, and the end

pub starts : (page : List ℕ) → Holds page 0 []
starts page = record { place = omega arith; held = λ h. go page }
  where
    go : (page : List ℕ) → take 0 page ≡ []
    go [] = refl
    go (x ∷ xs) = refl

-- nothing written
pub nothing : (p : Page) → Puts p p []
nothing p = record { same = refl; writes = record { size = refl; goes = λ t h. subst (Holds p.bytes.now p.end) (sym (append-nil t)) h } }

-- ---- a page that has room for the text: the answer is the text's length, and the page's front is the text

pub held_whole : {page text : List ℕ} {r : ℕ} → Holds page r text → length text ≤ length page → (r ≡ length text) × (take r page ≡ text)
held_whole h l = (let k = h.place in omega arith, h.held (let k = h.place in omega arith))

-- so the answer is a place on the page
pub on_page : {p q : Page} {text : List ℕ} → p.end ≡ 0 → Puts p q text → length text ≤ length p.bytes.now → q.end ≤ length q.bytes.now
on_page {p} {q} {text} e w l =
    let h : Holds q.bytes.now q.end text = w.writes.goes [] (rw e (starts p.bytes.now)) in
    let s = w.writes.size in let k = h.place in omega arith

-- ---- a loop that has written f of its counter, at its end

pub counted_up : (f : ℕ → List ℕ) {p q : Page} {i k : ℕ} → i ≡ k → Puts p q (f i) → Puts p q (f k)
counted_up f {p} {q} e w = subst (λ (j : ℕ). Puts p q (f j)) e w
