-- What a when covers.
use Rattle.std.proofs.Common.{◌≡◌, ℕ, ◌+◌, ◌<◌, ◌≤◌, List, [], Bool, true, false, ◌&&◌, ◌||◌, length, refl, ◌∙◌, nat_lt, arith, ⊎_elim}
use Rattle.std.proofs.lemmas.Bool.{cases_lt, lt-ltb, le-ltb}
use Rattle.fir_ast.specs.declared.place.Place.{Place}
use Rattle.fir_meaning.specs.working.TermReads.{is_among}
use Rattle.fir_meaning.specs.working.Terms.{Term}
use Rattle.fir_meaning.specs.working.LeafBlocks.{LeafBlock, when}
use Rattle.fir_driven.specs.working.Covering.{depth_in, flag_at}
use Rattle.fir_driven.specs.working.CoverWalks.{Covers, Joins, is_covered, is_covered_in}
use Rattle.fir_driven.specs.declared.covered.Covering.{Covering}

-- of a leaf that is declared inside
found_inside : (f1 f2 f3 before first second one two : Bool) → (f2 || first) ≡ ((f1 || false) || one) → (f3 || second) ≡ ((f2 || false) || two)
    → ((f3 || ((first || second) && true)) || (before || (first && second))) ≡ ((f1 || before) || (two || one))
found_inside f1 f2 f3 before first second one two h k = grind arith

-- and of one that is not
found_outside : (f1 f4 before after covered : Bool) → f4 ≡ f1 → after ≡ (before || covered) → (f4 || after) ≡ ((f1 || before) || covered)
found_outside f1 f4 before after covered h k = grind arith

-- and its flag is what it was
flag_outside : (f3 either inner : Bool) → inner ≡ false → (f3 || (either && inner)) ≡ f3
flag_outside f3 either inner h = grind arith

module _ (depths : List ℕ) (k : ℕ) (p : Place) (c : Term) (a b : LeafBlock) (one two three four : Covering) (first second before after : List ℕ)
    (then_covers : Covers depths (k + 1) (is_covered_in depths a (k + 1)) one two [] first)
    (else_covers : Covers depths (k + 1) (is_covered_in depths b (k + 1)) two three [] second)
    (join : Joins depths k first second three four before after) where
  outer : (x : ℕ) → x < length depths → depth_in depths x ≤ k → flag_at four.covered.items x ≡ flag_at one.covered.items x
  outer x within out =
      let further : depth_in depths x ≤ k + 1 = omega arith in
      join.flags x within
      ∙ flag_outside (flag_at three.covered.items x) (is_among first x || is_among second x) (nat_lt k (depth_in depths x)) (le-ltb k (depth_in depths x) out)
      ∙ else_covers.outer x within further ∙ then_covers.outer x within further

  listed : (x : ℕ) → x < length depths → depth_in depths x ≤ k → is_among after x ≡ (is_among before x || is_covered depths (when p c a b) k x)
  listed x within out =
      let further : depth_in depths x ≤ k + 1 = omega arith in
      rw (le-ltb k (depth_in depths x) out, join.listed x within, then_covers.listed x within further, else_covers.listed x within further) refl

  inside : (x : ℕ) → x < length depths → k < depth_in depths x
      → (flag_at four.covered.items x || is_among after x) ≡ ((flag_at one.covered.items x || is_among before x) || is_covered depths (when p c a b) k x)
  inside x within in_ =
      rw (join.flags x within, join.listed x within, lt-ltb k (depth_in depths x) in_)
      (found_inside (flag_at one.covered.items x) (flag_at two.covered.items x) (flag_at three.covered.items x) (is_among before x) (is_among first x)
      (is_among second x) (is_covered_in depths a (k + 1) x) (is_covered_in depths b (k + 1) x) (then_covers.found x within) (else_covers.found x within))

  pub when_covers : Covers depths k (is_covered depths (when p c a b) k) one four before after
  when_covers = record {
    ready = join.ready;
    outer = outer;
    listed = listed;
    found = λ x within.
        ⊎_elim (inside x within)
        (λ (out : depth_in depths x ≤ k).
        found_outside (flag_at one.covered.items x) (flag_at four.covered.items x) (is_among before x) (is_among after x)
        (is_covered depths (when p c a b) k x) (outer x within out) (listed x within out))
        (cases_lt k (depth_in depths x));
  }
