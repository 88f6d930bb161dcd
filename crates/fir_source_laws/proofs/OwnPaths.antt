-- What a design has stands below its path.
use Rattle.std.proofs.Common.{◌≡◌, ℕ, List, [], ◌∷◌, ◌++◌, Bool, true, false, filter, if◌then◌else◌, sym, ap, ◌∙◌, subst, append_assoc, inl, inr, ⊎_elim}
use Rattle.std.proofs.lemmas.List.{append-nil, append_cancel_left}
use Rattle.std.specs.Str.{bytes_eq}
use Rattle.fir_base.specs.Lists.{In}
use Rattle.fir_base.proofs.Members.{in_either, in_map_from}
use Rattle.fir_ast.specs.Statements.{Statement, wire, register, node, instance, memory, when, connect, partial_connect, invalid, skip, Block, done, then}
use Rattle.fir_meaning.specs.LeafPaths.{LeafPath, named}
use Rattle.fir_meaning.specs.Visibility.{Before, behind, behind_block, opened, reopened}
use Rattle.fir_meaning.specs.ModuleScenes.{Scene, behind_all_ports}
use Rattle.fir_meaning.specs.SourceCircuits.{PlacedArray, PlacedLeaf, array_order_in, array_order_in_block, array_order_of_design, array_order_of_instance, arrays_of_design, arrays_of_instances, inner_leaves, is_state_word, is_stored_array, leaves_of_design, leaves_of_instances, placed, placed_arrays, words_in, words_in_block, words_of_design, words_of_instance}
use Rattle.fir_meaning.specs.SourceDesigns.{Instances, SourceDesign, held, made_of, no_instances}
use Rattle.fir_meaning.specs.SourceRoles.{SourceArray, SourceLeaf, source_arrays, source_arrays_in, sources_in}
use Rattle.fir_source_laws.specs.working.InstanceLaws.{HasPath, of_leaf, of_word, of_array, of_stored_array, InstancesShareNothing}
use Rattle.fir_source_laws.specs.working.TreeStatements.{IsBelow}

-- what both of two have the chosen one has
pub either_way : {A : Type 0} (P : A → Type 0) (b : Bool) (x y : A) → P x → P y → P (if b then x else y)
either_way P true x y h k = h
either_way P false x y h k = k

pub below_joined : (at inner x : LeafPath) → IsBelow (at ++ inner) x → IsBelow at x
below_joined at inner x h = (inner ++ h.0, h.1 ∙ append_assoc at inner h.0)

pub below_longer : (at x rest : LeafPath) → IsBelow at x → IsBelow at (x ++ rest)
below_longer at x rest h = (h.0 ++ rest, ap (λ p. p ++ rest) h.1 ∙ append_assoc at h.0 rest)

in_filter : {A : Type 0} (test : A → Bool) (xs : List A) (a : A) → In (filter test xs) a → In xs a
in_filter {A} test [] a m = m
in_filter {A} test (x ∷ xs) a m = go (test x) m (in_filter test xs a)
  where
    go : (is_so : Bool) → In (if is_so then x ∷ filter test xs else filter test xs) a → (In (filter test xs) a → In xs a) → In (x ∷ xs) a
    go true (inl e) h = inl e
    go true (inr n) h = inr (h n)
    go false n h = inr (h n)

-- that all of some leaves, and of some arrays, stand in what is below a path
abbrev LeavesBelow : LeafPath → List PlacedLeaf → Type 0
LeavesBelow at ps = (p : PlacedLeaf) → In ps p → IsBelow at p.at

abbrev ArraysBelow : LeafPath → List PlacedArray → Type 0
ArraysBelow at ps = (p : PlacedArray) → In ps p → IsBelow at p.at

placed_below : (at : LeafPath) (ls : List SourceLeaf) → LeavesBelow at (placed at ls)
placed_below at ls p m =
    let from = in_map_from (λ (l : SourceLeaf). record { at = at; leaf = l }) ls p m in
    ([], sym (ap (λ (z : PlacedLeaf). z.at) from.2) ∙ sym (append-nil at))

arrays_placed_below : (at : LeafPath) (xs : List SourceArray) → ArraysBelow at (placed_arrays at xs)
arrays_placed_below at xs p m =
    let from = in_map_from (λ (a : SourceArray). record { at = at; array = a }) xs p m in
    ([], sym (ap (λ (z : PlacedArray). z.at) from.2) ∙ sym (append-nil at))

mutual
  leaves_below : (at : LeafPath) (d : SourceDesign) → LeavesBelow at (leaves_of_design at d)
  leaves_below at (made_of s is) p m =
      ⊎_elim
      (λ (l : In (placed at (inner_leaves s)) p). placed_below at (inner_leaves s) p l)
      (λ (r : In (leaves_of_instances at is) p). leaves_below_all at is p r)
      (in_either (placed at (inner_leaves s)) (leaves_of_instances at is) p m)

  leaves_below_all : (at : LeafPath) (is : Instances) → LeavesBelow at (leaves_of_instances at is)
  leaves_below_all at no_instances p m = absurd m
  leaves_below_all at (held name d rest) p m =
      ⊎_elim
      (λ (l : In (leaves_of_design (at ++ named name ∷ []) d) p). below_joined at (named name ∷ []) p.at (leaves_below (at ++ named name ∷ []) d p l))
      (λ (r : In (leaves_of_instances at rest) p). leaves_below_all at rest p r)
      (in_either (leaves_of_design (at ++ named name ∷ []) d) (leaves_of_instances at rest) p m)

mutual
  arrays_below : (at : LeafPath) (d : SourceDesign) → ArraysBelow at (arrays_of_design at d)
  arrays_below at (made_of s is) p m =
      ⊎_elim
      (λ (l : In (placed_arrays at (source_arrays s)) p). arrays_placed_below at (source_arrays s) p l)
      (λ (r : In (arrays_of_instances at is) p). arrays_below_all at is p r)
      (in_either (placed_arrays at (source_arrays s)) (arrays_of_instances at is) p m)

  arrays_below_all : (at : LeafPath) (is : Instances) → ArraysBelow at (arrays_of_instances at is)
  arrays_below_all at no_instances p m = absurd m
  arrays_below_all at (held name d rest) p m =
      ⊎_elim
      (λ (l : In (arrays_of_design (at ++ named name ∷ []) d) p). below_joined at (named name ∷ []) p.at (arrays_below (at ++ named name ∷ []) d p l))
      (λ (r : In (arrays_of_instances at rest) p). arrays_below_all at rest p r)
      (in_either (arrays_of_design (at ++ named name ∷ []) d) (arrays_of_instances at rest) p m)

-- the words of the state, where those of each instance stand below the path
module _ (at : LeafPath) (s : Scene) (child : List ℕ → List PlacedLeaf) (inside : (name : List ℕ) → LeavesBelow at (child name)) where
  own_words : (ls : List SourceLeaf) → LeavesBelow at (filter is_state_word (placed at ls))
  own_words ls p m = placed_below at ls p (in_filter is_state_word (placed at ls) p m)

  mutual
    words_below_in : (x : Statement) (before : Before) → LeavesBelow at (words_in at s child before x)
    words_below_in (instance p n other) before q m = inside n.name q m
    words_below_in (when p c a b) before q m =
        let one = words_in_block at s child (opened before) a in
        let two = words_in_block at s child (reopened before (behind_block (opened before) a)) b in
        ⊎_elim (λ (l : In one q). words_below_block a (opened before) q l)
        (λ (r : In two q). words_below_block b (reopened before (behind_block (opened before) a)) q r) (in_either one two q m)
    words_below_in (wire p n begins t) before q m = own_words (sources_in s before (wire p n begins t)) q m
    words_below_in (register p n begins t c r) before q m = own_words (sources_in s before (register p n begins t c r)) q m
    words_below_in (node p n e) before q m = own_words (sources_in s before (node p n e)) q m
    words_below_in (memory p n parts) before q m = own_words (sources_in s before (memory p n parts)) q m
    words_below_in (connect p sink e) before q m = absurd m
    words_below_in (partial_connect p sink e) before q m = absurd m
    words_below_in (invalid p sink) before q m = absurd m
    words_below_in (skip p) before q m = absurd m

    words_below_block : (b : Block) (before : Before) → LeavesBelow at (words_in_block at s child before b)
    words_below_block done before q m = absurd m
    words_below_block ((then) x b) before q m =
        let one = words_in at s child before x in
        let two = words_in_block at s child (behind before x) b in
        ⊎_elim (λ (l : In one q). words_below_in x before q l) (λ (r : In two q). words_below_block b (behind before x) q r) (in_either one two q m)

mutual
  words_below : (at : LeafPath) (d : SourceDesign) → LeavesBelow at (words_of_design at d)
  words_below at (made_of s is) =
      words_below_block at s (words_of_instance at is) (λ name. words_below_one at is name) s.own.inside.body (behind_all_ports s.own.inside)

  words_below_one : (at : LeafPath) (is : Instances) (name : List ℕ) → LeavesBelow at (words_of_instance at is name)
  words_below_one at no_instances name = λ p m. absurd m
  words_below_one at (held x d rest) name =
      either_way (LeavesBelow at) (bytes_eq x name) (words_of_design (at ++ named x ∷ []) d) (words_of_instance at rest name)
      (λ p m. below_joined at (named x ∷ []) p.at (words_below (at ++ named x ∷ []) d p m)) (words_below_one at rest name)

-- and the arrays of the state
module _ (at : LeafPath) (s : Scene) (child : List ℕ → List PlacedArray) (inside : (name : List ℕ) → ArraysBelow at (child name)) where
  own_arrays : (xs : List SourceArray) → ArraysBelow at (filter is_stored_array (placed_arrays at xs))
  own_arrays xs p m = arrays_placed_below at xs p (in_filter is_stored_array (placed_arrays at xs) p m)

  mutual
    order_below_in : (x : Statement) → ArraysBelow at (array_order_in at s child x)
    order_below_in (instance p n other) q m = inside n.name q m
    order_below_in (when p c a b) q m =
        ⊎_elim (λ (l : In (array_order_in_block at s child a) q). order_below_block a q l)
        (λ (r : In (array_order_in_block at s child b) q). order_below_block b q r)
        (in_either (array_order_in_block at s child a) (array_order_in_block at s child b) q m)
    order_below_in (memory p n parts) q m = own_arrays (source_arrays_in s (memory p n parts)) q m
    order_below_in (wire p n begins t) q m = absurd m
    order_below_in (register p n begins t c r) q m = absurd m
    order_below_in (node p n e) q m = absurd m
    order_below_in (connect p sink e) q m = absurd m
    order_below_in (partial_connect p sink e) q m = absurd m
    order_below_in (invalid p sink) q m = absurd m
    order_below_in (skip p) q m = absurd m

    order_below_block : (b : Block) → ArraysBelow at (array_order_in_block at s child b)
    order_below_block done q m = absurd m
    order_below_block ((then) x b) q m =
        ⊎_elim (λ (l : In (array_order_in at s child x) q). order_below_in x q l)
        (λ (r : In (array_order_in_block at s child b) q). order_below_block b q r)
        (in_either (array_order_in at s child x) (array_order_in_block at s child b) q m)

mutual
  order_below : (at : LeafPath) (d : SourceDesign) → ArraysBelow at (array_order_of_design at d)
  order_below at (made_of s is) = order_below_block at s (array_order_of_instance at is) (λ name. order_below_one at is name) s.own.inside.body

  order_below_one : (at : LeafPath) (is : Instances) (name : List ℕ) → ArraysBelow at (array_order_of_instance at is name)
  order_below_one at no_instances name = λ p m. absurd m
  order_below_one at (held x d rest) name =
      either_way (ArraysBelow at) (bytes_eq x name) (array_order_of_design (at ++ named x ∷ []) d) (array_order_of_instance at rest name)
      (λ p m. below_joined at (named x ∷ []) p.at (order_below (at ++ named x ∷ []) d p m)) (order_below_one at rest name)

has_below : (at : LeafPath) (d : SourceDesign) (x : LeafPath) → HasPath at d x → IsBelow at x
has_below at d x (of_leaf p m e) = subst (IsBelow at) e (below_longer at p.at p.leaf.path (leaves_below at d p m))
has_below at d x (of_word p m e) = subst (IsBelow at) e (below_longer at p.at p.leaf.path (words_below at d p m))
has_below at d x (of_array p m e) = subst (IsBelow at) e (below_longer at p.at p.array.path (arrays_below at d p m))
has_below at d x (of_stored_array p m e) = subst (IsBelow at) e (below_longer at p.at p.array.path (order_below at d p m))

pub share_nothing : InstancesShareNothing
share_nothing common inner other one two d e x differ h k =
    let left = has_below (common ++ named one ∷ inner) d x h in
    let right = has_below (common ++ named two ∷ other) e x k in
    let rests : named one ∷ (inner ++ left.0) ≡ named two ∷ (other ++ right.0) =
    append_cancel_left common (named one ∷ (inner ++ left.0)) (named two ∷ (other ++ right.0))
    (sym (append_assoc common (named one ∷ inner) left.0) ∙ sym left.1 ∙ right.1 ∙ append_assoc common (named two ∷ other) right.0) in
    let same : one ≡ two = cc in
    differ same
