-- What declarations have stands together in one list, in their order: the numbers of those of one declaration are those of its run.
use Rattle.std.proofs.Common.{◌≡◌, ℕ, ◌+◌, ◌<◌, ◌≤◌, List, [], ◌++◌, Bool, false, length, refl, sym, ap, ◌∙◌, arith, append_assoc, append-nil, length-append, ⊎_elim}
use Rattle.fir_base.specs.Lists.{In}
use Rattle.fir_base.proofs.Members.{in_either}
use Rattle.fir_meaning.specs.working.StateWalks.{numbers_where}
use Rattle.fir_design.proofs.ChosenNumbers.{numbers_alike, numbers_joined, numbers_none}

module _ {A : Type 0} (place : A → ℕ) where
  -- all are of declarations from one on and before another
  pub record IsRun (from upto : ℕ) (xs : List A) : Type 0 where
    pub low : (x : A) → In xs x → from ≤ place x
    pub high : (x : A) → In xs x → place x < upto

  pub no_run : (from upto : ℕ) → IsRun from upto []
  no_run from upto = record { low = λ x i. absurd i; high = λ x i. absurd i }

  pub one_run : (from upto : ℕ) (xs : List A) → from < upto → ((x : A) → In xs x → place x ≡ from) → IsRun from upto xs
  one_run from upto xs lt e = record { low = λ x i. omega (arith, e x i); high = λ x i. omega (arith, e x i, lt) }

  pub both_runs : (from between upto : ℕ) (xs ys : List A) → from ≤ between → between ≤ upto → IsRun from between xs
      → IsRun between upto ys
      → IsRun from upto (xs ++ ys)
  both_runs from between upto xs ys low high a b = record {
    low = λ x i. ⊎_elim (λ (l : In xs x). a.low x l) (λ (r : In ys x). omega (arith, b.low x r, low)) (in_either xs ys x i);
    high = λ x i. ⊎_elim (λ (l : In xs x). omega (arith, a.high x l, high)) (λ (r : In ys x). b.high x r) (in_either xs ys x i);
  }

  module _ (whole : List A) where
    -- these stand in the whole from a number on, and no others of it are of these declarations
    pub record StandsAlone (from upto b : ℕ) (xs : List A) : Type 0 where
      pub front : List A
      pub after : List A
      pub is : whole ≡ front ++ (xs ++ after)
      pub long : length front ≡ b
      pub low : (x : A) → In front x → place x < from
      pub high : (x : A) → In after x → upto ≤ place x

    pub alone_first : (from between upto b : ℕ) (xs ys : List A) → between ≤ upto → StandsAlone from upto b (xs ++ ys)
        → IsRun between upto ys
        → StandsAlone from between b xs
    alone_first from between upto b xs ys le h r = record {
      front = h.front;
      after = ys ++ h.after;
      is = h.is ∙ ap (λ zs. h.front ++ zs) (append_assoc xs ys h.after);
      long = h.long;
      low = h.low;
      high = λ x i. ⊎_elim (λ (l : In ys x). r.low x l) (λ (k : In h.after x). omega (arith, h.high x k, le)) (in_either ys h.after x i);
    }

    pub alone_second : (from between upto b : ℕ) (xs ys : List A) → from ≤ between → StandsAlone from upto b (xs ++ ys)
        → IsRun from between xs
        → StandsAlone between upto (b + length xs) ys
    alone_second from between upto b xs ys le h r = record {
      front = h.front ++ xs;
      after = h.after;
      is = h.is ∙ ap (λ zs. h.front ++ zs) (append_assoc xs ys h.after) ∙ sym (append_assoc h.front xs (ys ++ h.after));
      long = omega (arith, h.long, length-append h.front xs);
      low = λ x i. ⊎_elim (λ (k : In h.front x). omega (arith, h.low x k, le)) (λ (l : In xs x). r.high x l) (in_either h.front xs x i);
      high = h.high;
    }

    -- the numbers of what is so and of the declaration
    pub own_numbers : (is_so : A → Bool) (so : A → Bool) (from b : ℕ) (xs : List A) → StandsAlone from (from + 1) b xs
        → ((x : A) → (place x ≡ from → ⊥) → is_so x ≡ false) → ((x : A) → place x ≡ from → is_so x ≡ so x) →
        ((x : A) → In xs x → place x ≡ from)
        → numbers_where is_so 0 whole ≡ numbers_where so b xs
    own_numbers is_so so from b xs h other own all =
        ap (numbers_where is_so 0) h.is ∙ numbers_joined is_so 0 b h.front (xs ++ h.after) (omega (arith, h.long))
        ∙ ap (λ zs. zs ++ numbers_where is_so b (xs ++ h.after))
        (numbers_none is_so 0 h.front (λ x i. other x (λ e. let lt = h.low x i in omega (arith, e, lt))))
        ∙ numbers_joined is_so b (b + length xs) xs h.after refl
        ∙ ap (λ zs. numbers_where is_so b xs ++ zs)
        (numbers_none is_so (b + length xs) h.after (λ x i. other x (λ e. let le = h.high x i in omega (arith, e, le))))
        ∙ append-nil (numbers_where is_so b xs)
        ∙ numbers_alike is_so so b xs (λ x i. own x (all x i))
