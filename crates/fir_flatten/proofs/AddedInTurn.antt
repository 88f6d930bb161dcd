-- What is made one by one, each over the nodes so far, and the nodes that each adds behind them.
use Rattle.std.proofs.Common.{◌≡◌, ℕ, zero, suc, ◌+◌, List, [], ◌∷◌, ◌++◌, length, Some, refl, sym, ap, ◌∙◌, arith, append_assoc, append-nil, length-append}
use Rattle.std.specs.Prelude.{slice_get}
use Rattle.fir_net.specs.declared.node.Node.{Node}
use Rattle.fir_flatten.proofs.StandingNodes.{StandAt, stands_left, stands_right}

module _ (A B : Type 0) (make : A → ℕ → B) (adds : A → ℕ → List Node) where
  abbrev pub made : List A → ℕ → List B
  made [] count = []
  made (a ∷ rest) count = make a count ∷ made rest (count + length (adds a count))

  abbrev pub added : List A → ℕ → List Node
  added [] count = []
  added (a ∷ rest) count = adds a count ++ added rest (count + length (adds a count))

  pub length-made : (xs : List A) (count : ℕ) → length (made xs count) ≡ length xs
  length-made [] count = refl
  length-made (x ∷ xs) count = ap suc (length-made xs (count + length (adds x count)))

  made_push : (xs : List A) (a : A) (count : ℕ) → made (xs ++ a ∷ []) count ≡ made xs count ++ make a (count + length (added xs count)) ∷ []
  made_push [] a count = let all : count + 0 ≡ count = omega arith in rw all refl
  made_push (x ∷ xs) a count =
      let own = adds x count in
      let rest = added xs (count + length own) in
      let all : count + length own + length rest ≡ count + length (own ++ rest) = omega (arith, length-append own rest) in
      ap (λ (more : List B). make x count ∷ more)
      (made_push xs a (count + length own) ∙ ap (λ (n : ℕ). made xs (count + length own) ++ make a n ∷ []) all)

  added_push : (xs : List A) (a : A) (count : ℕ) → added (xs ++ a ∷ []) count ≡ added xs count ++ adds a (count + length (added xs count))
  added_push [] a count = let all : count + 0 ≡ count = omega arith in rw all (append-nil (adds a count))
  added_push (x ∷ xs) a count =
      let own = adds x count in
      let rest = added xs (count + length own) in
      let all : count + length own + length rest ≡ count + length (own ++ rest) = omega (arith, length-append own rest) in
      ap (λ (more : List Node). own ++ more)
      (added_push xs a (count + length own) ∙ ap (λ (n : ℕ). rest ++ adds a n) all)
      ∙ sym (append_assoc own rest (adds a (count + length (own ++ rest))))

  pub record SoFar (old new : List Node) (xs : List A) (ys : List B) : Type 0 where
    pub are : ys ≡ made xs (length old)
    pub nodes : new ≡ old ++ added xs (length old)

  pub so_far_none : (old : List Node) → SoFar old old [] []
  so_far_none old = record { are = refl; nodes = sym (append-nil old) }

  pub so_far_more : (old middle new : List Node) (xs : List A) (a : A) (ys : List B) (b : B) → SoFar old middle xs ys → b ≡ make a (length middle)
      → new ≡ middle ++ adds a (length middle) → SoFar old new (xs ++ a ∷ []) (ys ++ b ∷ [])
  so_far_more old middle new xs a ys b so is grown =
      let start = length old in
      let rest = added xs start in
      let many : length middle ≡ start + length rest = ap length so.nodes ∙ length-append old rest in
      record {
        are =
            ap (λ (y : B). ys ++ y ∷ []) (is ∙ ap (make a) many)
            ∙ ap (λ (before : List B). before ++ make a (start + length rest) ∷ []) so.are ∙ sym (made_push xs a start);
        nodes =
            grown ∙ ap (λ (n : ℕ). middle ++ adds a n) many ∙ ap (λ (ns : List Node). ns ++ adds a (start + length rest)) so.nodes
            ∙ append_assoc old rest (adds a (start + length rest)) ∙ ap (λ (ns : List Node). old ++ ns) (sym (added_push xs a start));
      }

  -- the one of a number, and the nodes that it adds
  pub record IsPlaced (nodes : List Node) (xs : List A) (k : ℕ) (b : B) : Type 0 where
    pub from : A
    pub from_at : slice_get xs k ≡ Some from
    pub count : ℕ
    pub is : b ≡ make from count
    pub adds_there : StandAt nodes count (adds from count)

  pub one_placed : (nodes : List Node) (xs : List A) (count k : ℕ) (b : B) → StandAt nodes count (added xs count) → slice_get (made xs count) k ≡ Some b
      → IsPlaced nodes xs k b
  one_placed nodes [] count k b at e = cc
  one_placed nodes (x ∷ xs) count zero b at e = record {
    from = x;
    from_at = refl;
    count = count;
    is = cc;
    adds_there = stands_left nodes count (adds x count) (added xs (count + length (adds x count))) at;
  }
  one_placed nodes (x ∷ xs) count (suc k) b at e =
      let own = adds x count in
      let rest =
      one_placed nodes xs (count + length own) k b (stands_right nodes count own (added xs (count + length own)) at) e in
      record { from = rest.from; from_at = rest.from_at; count = rest.count; is = rest.is; adds_there = rest.adds_there }
