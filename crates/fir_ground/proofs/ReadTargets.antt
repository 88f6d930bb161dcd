-- Nodes for the leaves of a target that is there.
use Rattle.std.proofs.Common.{◌≡◌, ℕ, zero, suc, ◌+◌, ◌-◌, ◌*◌, ◌^◌, ◌≤◌, false, List, [], ◌∷◌, ◌++◌, map, length, Option, Some, None, refl, sym, ap, ◌∙◌, arith, length-append}
use Rattle.std.proofs.lemmas.List.{length-map}
use Rattle.std.proofs.Math.Nat.{suc-mul}
use Rattle.fir_ast.specs.Types.{DataType, bundle, vector, Fields, no_fields, field}
use Rattle.fir_meaning.specs.LeafPaths.{named, element}
use Rattle.fir_meaning.specs.TypeLeaves.{TypeLeaf, element_leaves, field_count, field_leaves, leaf_count, type_leaves, under}
use Rattle.fir_leaf.specs.declared.node.Node.{Node}
use Rattle.fir_leaf.specs.declared.node.Node.TheVariants as node
use Rattle.fir_meaning.specs.working.Leafed.{leaf_term, leaf_terms, target_terms}
use Rattle.fir_leaf.specs.working.Nodes.{Gives, entries, picks_at}
use Rattle.fir_meaning.specs.working.Targets as over
use Rattle.fir_meaning.specs.working.Terms.{Picks, read}
use Rattle.fir_types.specs.working.Seen.{found_type}
use Rattle.fir_type_table.specs.working.Saturated.{saturated}
use Rattle.fir_leaf_pairs.specs.declared.target.Target.{Target}
use Rattle.fir_ground.specs.working.Absent.{absent_leaf, absent_terms}
use Rattle.fir_leaf_pairs.specs.working.TargetNames.{Names, PicksWithin}
use Rattle.fir_leaf_pairs.specs.working.Reads.{IsWithinCost, reads_from}
use Rattle.fir_leaf_pairs.proofs.Entries.{picks_keep}
use Rattle.fir_leaf_pairs.proofs.Giving.{gives_none, gives_push, shows_new}

-- a type has as many leaves as are counted
element_count : (i n : ℕ) (ls : List TypeLeaf) → length (element_leaves i n ls) ≡ n * length ls
element_count i zero ls = omega arith
element_count i (suc n) ls =
    omega (arith, length-append (map (under false (element i)) ls) (element_leaves (i + 1) n ls), length-map ls (under false (element i)), suc-mul n (length ls), element_count (i + 1) n ls)

mutual
  pub count_leaves : (t : DataType) → length (type_leaves t) ≡ leaf_count t
  count_leaves (bundle fs) = count_fields fs
  count_leaves (vector t n) = element_count 0 n (type_leaves t) ∙ ap (λ x. n * x) (count_leaves t)
  count_leaves t = refl

  count_fields : (fs : Fields) → length (field_leaves fs) ≡ field_count fs
  count_fields no_fields = refl
  count_fields (field p f x b t rest) =
      omega (arith, length-append (map (under f (named x)) (type_leaves t)) (field_leaves rest), length-map (type_leaves t) (under f (named x)), count_leaves t, count_fields rest)

-- one leaf after another
reads_more : (b n : ℕ) (ps : Picks) → reads_from b (n + 1) ps ≡ reads_from b n ps ++ read (b + n) ps ∷ []
unfolding reads_from
reads_more b zero ps = let e : b + 0 ≡ b = omega arith in rw e refl
reads_more b (suc n) ps =
    let e : suc n + 1 ≡ suc (n + 1) = omega arith in
    let g : b + suc n ≡ (b + 1) + n = omega arith in rw (e, g) (ap (λ l. read b ps ∷ l) (reads_more (b + 1) n ps))

pub read_none : (old : List Node) (ids : List ℕ) (b : ℕ) (ps : Picks) → ids ≡ [] → Gives old old ids (reads_from b 0 ps)
unfolding reads_from
read_none old ids b ps e = rw e (gives_none old)

pub read_more : (old mid new : List Node) (b k id n : ℕ) (p : Option ℕ) (ps : Picks) (ids out : List ℕ) → n ≡ b + k → PicksWithin (length old) p
    → picks_at (entries old) p ≡ ps → Gives old mid ids (reads_from b k ps) → id ≡ length mid → new ≡ mid ++ node.Read n p ∷ [] → out ≡ ids ++ id ∷ []
    → Gives old new out (reads_from b (k + 1) ps)
read_more old mid new b k id n p ps ids out at within picks g i made o =
    rw (reads_more b k ps)
    (gives_push old mid new ids out (reads_from b k ps) id (read (b + k) ps) g
    (shows_new mid new (node.Read n p) id (read (b + k) ps) i made (rw (at, picks_keep old mid p g.grows within, picks) refl)) o)

-- and these are the terms of the target
there_terms : (r : over.Target) (b k : ℕ) (ls : List TypeLeaf) → r.base ≡ Some b → leaf_terms r k ls ≡ reads_from (b + k) (length ls) r.picks
unfolding reads_from
there_terms r b k [] is = refl
there_terms r b k (l ∷ ls) is =
    let next : b + suc k ≡ (b + k) + 1 = omega arith in
    ap (λ o. leaf_term o r.picks k l.ground_type ∷ leaf_terms r (suc k) ls) is
    ∙ ap (λ ts. read (b + k) r.picks ∷ ts) (there_terms r b (suc k) ls is ∙ ap (λ m. reads_from m (length ls) r.picks) next)

pub there_gives : (old new : List Node) (ts : List DataType) (t : Target) (r : over.Target) (b n : ℕ) (ids : List ℕ) → Names ts old t r → IsWithinCost r → t.base ≡ Some b
    → n ≡ saturated (leaf_count (found_type ts t.found)) → (b + n ≤ 2 ^ 64 - 1 → Gives old new ids (reads_from b n r.picks)) → Gives old new ids (target_terms r)
there_gives old new ts t r b n ids names small at count gives =
    let here : r.base ≡ Some b = sym names.base ∙ at in
    let within = rw here at small in
    let exact : n ≡ leaf_count r.data_type = omega (arith, count, ap leaf_count names.data_type, within) in
    let from : b + 0 ≡ b = omega arith in
    let same : target_terms r ≡ reads_from b n r.picks =
    there_terms r b 0 (type_leaves r.data_type) here ∙ ap (λ m. reads_from m (length (type_leaves r.data_type)) r.picks) from
    ∙ ap (λ m. reads_from b m r.picks) (count_leaves r.data_type ∙ sym exact) in
    rw same (gives (omega (arith, within, exact)))

-- where it is not there
absent_terms_of : (r : over.Target) (k : ℕ) (ls : List TypeLeaf) → r.base ≡ None → leaf_terms r k ls ≡ map (absent_leaf r.picks) ls
absent_terms_of r k [] is = refl
absent_terms_of r k (l ∷ ls) is =
    ap (λ o. leaf_term o r.picks k l.ground_type ∷ leaf_terms r (suc k) ls) is ∙ ap (λ ts. absent_leaf r.picks l ∷ ts) (absent_terms_of r (suc k) ls is)

pub absent_gives : (old new : List Node) (ts : List DataType) (t : Target) (r : over.Target) (ids : List ℕ) → Names ts old t r → t.base ≡ None
    → Gives old new ids (absent_terms r.picks (found_type ts t.found)) → Gives old new ids (target_terms r)
absent_gives old new ts t r ids names none gives =
    rw (absent_terms_of r 0 (type_leaves r.data_type) (sym names.base ∙ none), ← names.data_type) gives
