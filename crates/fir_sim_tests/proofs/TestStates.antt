-- The words of the state of a list of leaves: the numbers of the registers and pipes that have bits, in their order.
use Rattle.std.proofs.Common.{◌≡◌, ℕ, zero, suc, ◌+◌, ◌≤◌, List, [], ◌∷◌, Bool, true, false, cond, Some, refl, ap, ◌∙◌, inl, inr, arith}
use Rattle.std.specs.Prelude.{slice_get}
use Rattle.fir_base.specs.Lists.{In, Distinct}
use Rattle.fir_net.specs.declared.leaf.Leaf.{Leaf}
use Rattle.fir_net.specs.working.IsNet.{is_word, IsState}

abbrev pub words_from : ℕ → List Leaf → List ℕ
words_from k [] = []
words_from k (l ∷ ls) = cond (is_word l) (k ∷ words_from (suc k) ls) (words_from (suc k) ls)

-- the leaf of such a word
record IsWordOf (k : ℕ) (ls : List Leaf) (j : ℕ) : Type 0 where
  place : ℕ
  is : j ≡ k + place
  leaf : Leaf
  at : slice_get ls place ≡ Some leaf
  word : is_word leaf ≡ true

later : (k : ℕ) (l : Leaf) (ls : List Leaf) (j : ℕ) → IsWordOf (suc k) ls j → IsWordOf k (l ∷ ls) j
later k l ls j w = let before = w.is in record { place = suc w.place; is = omega arith; leaf = w.leaf; at = w.at; word = w.word }

only : (k : ℕ) (ls : List Leaf) (n j : ℕ) → slice_get (words_from k ls) n ≡ Some j → IsWordOf k ls j
only k [] n j e = absurd (cc)
only k (l ∷ ls) n j e = by (is_word l) refl n e (λ m f. only (suc k) ls m j f)
  where
    by : (b : Bool) → is_word l ≡ b → (m : ℕ) → slice_get (cond b (k ∷ words_from (suc k) ls) (words_from (suc k) ls)) m ≡ Some j
        → ((i : ℕ) → slice_get (words_from (suc k) ls) i ≡ Some j → IsWordOf (suc k) ls j) → IsWordOf k (l ∷ ls) j
    by true is zero f rest = let same : k ≡ j = cc in record { place = 0; is = omega (arith, same); leaf = l; at = refl; word = is }
    by true is (suc m) f rest = later k l ls j (rest m f)
    by false is m f rest = later k l ls j (rest m f)

all : (k : ℕ) (ls : List Leaf) (i : ℕ) (m : Leaf) → slice_get ls i ≡ Some m → is_word m ≡ true → (n : ℕ) × (slice_get (words_from k ls) n ≡ Some (k + i))
all k [] i m at is = absurd (cc)
all k (l ∷ ls) zero m at is = let same : l ≡ m = cc in let word : is_word l ≡ true = ap is_word same ∙ is in let none : k ≡ k + 0 = omega arith in rw word (0, ap Some none)
all k (l ∷ ls) (suc i) m at is = by (is_word l) (all (suc k) ls i m at is)
  where
    by : (b : Bool) → (n : ℕ) × (slice_get (words_from (suc k) ls) n ≡ Some (suc k + i)) → (n : ℕ) × (slice_get (cond b (k ∷ words_from (suc k) ls) (words_from (suc k) ls)) n ≡ Some (k + suc i))
    by true found = let more : suc k + i ≡ k + suc i = omega arith in (suc found.0, found.1 ∙ ap Some more)
    by false found = let more : suc k + i ≡ k + suc i = omega arith in (found.0, found.1 ∙ ap Some more)

from : (k : ℕ) (ls : List Leaf) (j : ℕ) → In (words_from k ls) j → k ≤ j
from k [] j m = absurd m
from k (l ∷ ls) j m = by (is_word l) m (λ n. from (suc k) ls j n)
  where
    by : (b : Bool) → In (cond b (k ∷ words_from (suc k) ls) (words_from (suc k) ls)) j → (In (words_from (suc k) ls) j → suc k ≤ j) → k ≤ j
    by true (inl e) rest = omega (arith, e)
    by true (inr n) rest = let high = rest n in omega (arith, high)
    by false n rest = let high = rest n in omega (arith, high)

once : (k : ℕ) (ls : List Leaf) → Distinct (words_from k ls)
once k [] = tt
once k (l ∷ ls) = by (is_word l) (once (suc k) ls)
  where
    by : (b : Bool) → Distinct (words_from (suc k) ls) → Distinct (cond b (k ∷ words_from (suc k) ls) (words_from (suc k) ls))
    by true rest = ((λ m. let high = from (suc k) ls k m in omega (arith, high)), rest)
    by false rest = rest

pub state_of : (leaves : List Leaf) → IsState leaves (words_from 0 leaves)
state_of leaves = record {
  only = λ n j e. let w = only 0 leaves n j e in let same : w.place ≡ j = omega (arith, w.is) in (w.leaf, ap (slice_get leaves) (omega (arith, w.is)) ∙ w.at, w.word);
  all = λ k l at is. let found = all 0 leaves k l at is in let same : 0 + k ≡ k = omega arith in (found.0, found.1 ∙ ap Some same);
  once = once 0 leaves;
}
