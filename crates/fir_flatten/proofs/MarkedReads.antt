-- What reads mark: their nodes, and nothing else.
use Rattle.std.proofs.Common.{◌≡◌, ℕ, ◌+◌, ◌<◌, ◌≤◌, List, [], ◌∷◌, ◌++◌, length, get_or, take, Some, Bool, true, false, refl, ap, sym, ◌∙◌, subst, arith, set, if◌then◌else◌, ◌⊎◌, inl, inr, length-set}
use Rattle.std.specs.Prelude.{slice_get, nat_lt}
use Rattle.std.proofs.lemmas.Bool.{cases_eq, ltb-true, lt-ltb}
use Rattle.std.proofs.lemmas.List.{take_more}
use Rattle.std.proofs.lemmas.Option.{slice_get_within}
use Rattle.fir_base.proofs.Writes.{WrittenOr, write_cases, write_other, write_same}
use Rattle.fir_net.specs.declared.reads.Read.{Read}
use Rattle.fir_net.specs.declared.reads.Read.TheVariants as read
use Rattle.fir_merge.specs.working.NodeTerms.{AreBelow, IsBelow}
use Rattle.fir_flatten.specs.working.KeptNodes.{AreMarked, EachRead, IsMarked, marked, marked_all}

-- as many, and each that was marked is
pub record More (old new : List Bool) : Type 0 where
  pub long : length new ≡ length old
  pub stays : (j : ℕ) → slice_get old j ≡ Some true → slice_get new j ≡ Some true

pub still_marked : (old new : List Bool) (r : Read) → More old new → IsMarked old r → IsMarked new r
still_marked old new (read.Leaf x) m h = tt
still_marked old new (read.Node k) m h = m.stays k h

pub still_all_marked : (old new : List Bool) (rs : List Read) → More old new → AreMarked old rs → AreMarked new rs
still_all_marked old new [] m h = tt
still_all_marked old new (r ∷ rs) m h = (still_marked old new r m h.0, still_all_marked old new rs m h.1)

pub still_each_marked : (old new : List Bool) (n : ℕ) (rs : List Read) → More old new → EachRead (λ r. IsBelow n r → IsMarked old r) rs
    → EachRead (λ r. IsBelow n r → IsMarked new r) rs
still_each_marked old new n [] m h = tt
still_each_marked old new n (r ∷ rs) m h = (λ b. still_marked old new r m (h.0 b), still_each_marked old new n rs m h.1)

-- one read
more_by_one : (r : Read) (marks : List Bool) → More marks (marked r marks)
more_by_one (read.Leaf x) marks = record { long = refl; stays = λ j h. h }
more_by_one (read.Node k) marks = by_test (nat_lt k (length marks))
  where
    written : (j : ℕ) → slice_get marks j ≡ Some true → (j ≡ k) ⊎ (j ≡ k → ⊥) → slice_get (set marks k true) j ≡ Some true
    written j h (inl e) =
        let within = slice_get_within marks j true h in
        let at : k < length marks = omega arith in
        subst (λ (i : ℕ). slice_get (set marks k true) i ≡ Some true) (sym e) (write_same marks k true at)
    written j h (inr n) = write_other marks k true j n ∙ h

    by_test : (b : Bool) → More marks (if b then set marks k true else marks)
    by_test true = record { long = length-set marks k true; stays = λ j h. written j h (cases_eq j k) }
    by_test false = record { long = refl; stays = λ j h. h }

one_is_marked : (r : Read) (marks : List Bool) → IsBelow (length marks) r → IsMarked (marked r marks) r
one_is_marked (read.Leaf x) marks b = tt
one_is_marked (read.Node k) marks b = by_test (nat_lt k (length marks)) (lt-ltb k (length marks) b)
  where
    by_test : (t : Bool) → t ≡ true → slice_get (if t then set marks k true else marks) k ≡ Some true
    by_test true e = write_same marks k true b
    by_test false e = cc

-- what holds of the read and of all that was marked holds of all that is
one_alone : (P : Read → Type 0) (r : Read) (marks : List Bool) → P r → ((j : ℕ) → slice_get marks j ≡ Some true → P (read.Node j))
    → (j : ℕ) → slice_get (marked r marks) j ≡ Some true → P (read.Node j)
one_alone P (read.Leaf x) marks p old j h = old j h
one_alone P (read.Node k) marks p old j h = by_test (nat_lt k (length marks)) refl h
  where
    written : WrittenOr marks k true j true → P (read.Node j)
    written (inl (e, same)) = subst (λ (i : ℕ). P (read.Node i)) (sym e) p
    written (inr (n, e)) = old j e

    by_test : (t : Bool) → nat_lt k (length marks) ≡ t → slice_get (if t then set marks k true else marks) j ≡ Some true → P (read.Node j)
    by_test true e g = written (write_cases marks k true j true (ltb-true k (length marks) e) g)
    by_test false e g = old j g

-- no mark from a number on is changed where what is read stands below it
one_below : (n : ℕ) (r : Read) (marks : List Bool) → IsBelow n r → (j : ℕ) → n ≤ j → slice_get (marked r marks) j ≡ slice_get marks j
one_below n (read.Leaf x) marks b j from = refl
one_below n (read.Node k) marks b j from = by_test (nat_lt k (length marks))
  where
    by_test : (t : Bool) → slice_get (if t then set marks k true else marks) j ≡ slice_get marks j
    by_test true = write_other marks k true j (λ e. omega arith)
    by_test false = refl

-- all reads
pub more_by_all : (rs : List Read) (marks : List Bool) → More marks (marked_all rs marks)
more_by_all [] marks = record { long = refl; stays = λ j h. h }
more_by_all (r ∷ rs) marks =
    let first = more_by_one r marks in
    let rest = more_by_all rs (marked r marks) in
    record { long = rest.long ∙ first.long; stays = λ j h. rest.stays j (first.stays j h) }

pub each_is_marked : (n : ℕ) (rs : List Read) (marks : List Bool) → length marks ≡ n
    → EachRead (λ r. IsBelow n r → IsMarked (marked_all rs marks) r) rs
each_is_marked n [] marks long = tt
each_is_marked n (r ∷ rs) marks long = (
  λ b. still_marked (marked r marks) (marked_all rs (marked r marks)) r (more_by_all rs (marked r marks))
      (one_is_marked r marks (subst (λ (m : ℕ). IsBelow m r) (sym long) b)),
  each_is_marked n rs (marked r marks) ((more_by_one r marks).long ∙ long),
)

pub all_alone : (P : Read → Type 0) (rs : List Read) (marks : List Bool) → EachRead P rs
    → ((j : ℕ) → slice_get marks j ≡ Some true → P (read.Node j)) → (j : ℕ) → slice_get (marked_all rs marks) j ≡ Some true → P (read.Node j)
all_alone P [] marks p old = old
all_alone P (r ∷ rs) marks p old = all_alone P rs (marked r marks) p.1 (one_alone P r marks p.0 old)

pub all_below : (n : ℕ) (rs : List Read) (marks : List Bool) → AreBelow n rs → (j : ℕ) → n ≤ j → slice_get (marked_all rs marks) j ≡ slice_get marks j
all_below n [] marks b j from = refl
all_below n (r ∷ rs) marks b j from = all_below n rs (marked r marks) b.1 j from ∙ one_below n r marks b.0 j from

-- one read more
marked_append : (xs ys : List Read) (marks : List Bool) → marked_all (xs ++ ys) marks ≡ marked_all ys (marked_all xs marks)
marked_append [] ys marks = refl
marked_append (x ∷ xs) ys marks = marked_append xs ys (marked x marks)

pub marked_more : (reads : List Read) (i : ℕ) (r : Read) (marks : List Bool) → i < length reads → r ≡ get_or reads i r
    → marked_all (take (i + 1) reads) marks ≡ marked r (marked_all (take i reads) marks)
marked_more reads i r marks within is =
    ap (λ (rs : List Read). marked_all rs marks) (take_more reads i r within ∙ ap (λ s. take i reads ++ s ∷ []) (sym is))
    ∙ marked_append (take i reads) (r ∷ []) marks
