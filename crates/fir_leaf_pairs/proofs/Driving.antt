-- Pairs and leaves that are driven are those of their blocks.
use Rattle.std.proofs.Common.{◌≡◌, ℕ, zero, suc, ◌+◌, ◌<◌, ◌≤◌, List, [], ◌∷◌, ◌++◌, Bool, true, false, ◌||◌, map, take, get_or, length, refl, sym, ap, ◌∙◌, subst, arith, Option, Some, None}
use Rattle.std.specs.Prelude.{if◌then◌else◌}
use Rattle.std.proofs.lemmas.List.{take_all, map_more}
use Rattle.fir_ast.specs.declared.place.Place.{Place}
use Rattle.fir_ast.specs.Types.{DataType}
use Rattle.fir_meaning.specs.TypeLeaves.{leaf_count}
use Rattle.fir_type_table.specs.working.Saturated.{saturated}
use Rattle.fir_types.specs.working.Seen.{found_type}
use Rattle.fir_leaf.specs.declared.node.Node.{Node}
use Rattle.fir_leaf.specs.declared.statement.Drive.{Drive}
use Rattle.fir_leaf.specs.declared.statement.LeafStmt.{LeafStmt}
use Rattle.fir_leaf.specs.declared.statement.LeafStmt.TheVariants as code
use Rattle.fir_meaning.specs.working.LeafBlocks.{LeafBlock, drive, done, joined}
use Rattle.fir_meaning.specs.working.LeafedBlocks.{Sides, driven, driven_from, driven_where, invalid_block, invalid_leaf, invalid_leaves, pair_block, pairs_block, term_at}
use Rattle.fir_meaning.specs.working.LeafPairs.{LeafPair}
use Rattle.fir_leaf.specs.working.Nodes.{entries, node_term, picks_at}
use Rattle.fir_leaf.specs.working.NodeBlocks.{Emitted}
use Rattle.fir_meaning.specs.working.Targets as over
use Rattle.fir_meaning.specs.working.Terms.{Term, zeros}
use Rattle.fir_leaf_pairs.specs.declared.pairs.LeafPair.{LeafPair as PairOfCode}
use Rattle.fir_leaf_pairs.specs.declared.target.Target.{Target}
use Rattle.fir_leaf_pairs.specs.working.Drives.{Stand, StandsFor, HasTarget, MayHaveTarget, HasSides, GivesBack, is_any_flipped, Drives, DrivesBack, DrivesPair, DrivesPairs, DrivesZero, DrivesZeros, sinks_in}
use Rattle.fir_leaf_pairs.specs.working.PairNumbers.{AreWithin}
use Rattle.fir_leaf_pairs.specs.working.Pairing.{pair_seen}
use Rattle.fir_leaf_pairs.specs.working.Reads.{IsWithin}
use Rattle.fir_leaf_pairs.proofs.Emitting.{drive_is, joined_assoc, joined_done, emitted_none, emitted_then, emitted_as, emitted_one}
use Rattle.fir_leaf_pairs.proofs.Entries.{picks_keep}
use Rattle.fir_leaf_pairs.proofs.Giving.{below_at, term_keeps}

-- a leaf of a target
pub drives_one : (before after : List LeafStmt) (p : Place) (t : Target) (k id base leaf : ℕ) → t.base ≡ Some base → leaf ≡ saturated (base + k)
    → after ≡ before ++ code.Drive (record { place = p; leaf = leaf; picks = t.picks; given = id }) ∷ [] → Drives before after p t k id
drives_one before after p t k id base leaf based at grown = λ ts nodes n r given target less stands.
    let names = target.names in
    let rbase : r.base ≡ Some base = sym names.base ∙ based in
    let room : IsWithin (Some base) n = subst (λ b. IsWithin b n) rbase target.room in
    let exact : leaf ≡ base + k = omega arith in
    let own : Drive = record { place = p; leaf = leaf; picks = t.picks; given = id } in
    emitted_as nodes before after (driven_from p (Some base) r k given) (driven p r k given) (sym (ap (λ b. driven_from p b r k given) rbase))
    (emitted_one nodes before after (code.Drive own) (drive p (base + k) r.picks given) grown
    (λ later g.
    drive_is later own ∙ ap (λ x. drive p x (picks_at (entries later) t.picks) (node_term later id)) exact
    ∙ ap (λ x. drive p (base + k) x (node_term later id)) (picks_keep nodes later t.picks g names.within ∙ names.picks)
    ∙ ap (drive p (base + k) r.picks) (term_keeps nodes later id g stands.within ∙ stands.term)))

term_get : (f : ℕ → Term) (ids : List ℕ) (k d : ℕ) → k < length ids → term_at (map f ids) k ≡ f (get_or ids k d)
term_get f [] k d less = absurd (omega arith)
term_get f (x ∷ ids) zero d less = refl
term_get f (x ∷ ids) (suc k) d less = term_get f ids k d (omega arith)

-- a node at a place of a list
stand_at : (nodes : List Node) (ids : List ℕ) (ts : List Term) (k id : ℕ) → Stand nodes ids ts → k < length ids → id ≡ get_or ids k id
    → StandsFor nodes id (term_at ts k)
stand_at nodes ids ts k id h less e = record {
  within = let b : get_or ids k id < length nodes = below_at (length nodes) ids k id h.within less in omega (arith, e, b);
  term = ap (node_term nodes) e ∙ sym (term_get (node_term nodes) ids k id less) ∙ ap (λ l. term_at l k) h.terms;
}

back_where : (before after : List LeafStmt) (p : Place) (t : Target) (pair : PairOfCode) (id : ℕ) (ts : List DataType) (nodes : List Node) (m : ℕ)
    (o : Option over.Target) (given : Term)
    → MayHaveTarget ts nodes m (Some t) o → pair.right < m → StandsFor nodes id given → Drives before after p t pair.right id
    → Emitted nodes before after (driven_where p o pair.right given)
back_where before after p t pair id ts nodes m None given may less stands h = absurd may
back_where before after p t pair id ts nodes m (Some r) given may less stands h = h ts nodes m r given may less stands

pub drives_back : (before after : List LeafStmt) (p : Place) (right : Option Target) (t : Target) (gives_back : List ℕ) (pair : PairOfCode) (id : ℕ)
    → right ≡ Some t
    → pair.left < length gives_back → id ≡ get_or gives_back pair.left id → Drives before after p t pair.right id
    → DrivesBack before after p right gives_back pair
drives_back before after p right t gives_back pair id is there at h = λ ts nodes n m sides may back less fewer.
    back_where before after p t pair id ts nodes m sides.right (term_at sides.gives_back pair.left)
    (subst (λ o. MayHaveTarget ts nodes m o sides.right) is may) fewer
    (stand_at nodes gives_back sides.gives_back pair.left id back.gives there at) h

-- a pair, either way
pub pair_flipped : (before after : List LeafStmt) (p : Place) (left : Target) (right : Option Target) (gives gives_back : List ℕ) (pair : PairOfCode)
    → pair.flip ≡ true
    → DrivesBack before after p right gives_back pair → DrivesPair before after p left right gives gives_back pair
pair_flipped before after p left right gives gives_back pair flip h = λ ts nodes n m sides has back less fewer.
    let b : LeafBlock = driven_where p sides.right pair.right (term_at sides.gives_back pair.left) in
    let c : LeafBlock = driven p sides.left pair.left (term_at sides.gives pair.right) in
    emitted_as nodes before after b (pair_block p sides (pair_seen pair)) (ap (λ f. if f then b else c) (sym flip))
    (h ts nodes n m sides has.right (back flip) less fewer)

pub pair_straight : (before after : List LeafStmt) (p : Place) (left : Target) (right : Option Target) (gives gives_back : List ℕ) (pair : PairOfCode)
    (id : ℕ) → pair.flip ≡ false
    → pair.right < length gives → id ≡ get_or gives pair.right id → Drives before after p left pair.left id
    → DrivesPair before after p left right gives gives_back pair
pair_straight before after p left right gives gives_back pair id flip there at h = λ ts nodes n m sides has back less fewer.
    let b : LeafBlock = driven_where p sides.right pair.right (term_at sides.gives_back pair.left) in
    let c : LeafBlock = driven p sides.left pair.left (term_at sides.gives pair.right) in
    emitted_as nodes before after c (pair_block p sides (pair_seen pair)) (ap (λ f. if f then b else c) (sym flip))
    (h ts nodes n sides.left (term_at sides.gives pair.right) has.left less (stand_at nodes gives sides.gives pair.right id has.gives there at))

-- pairs one by one
pairs_push : (p : Place) (sides : Sides) (qs : List LeafPair) (q : LeafPair)
    → pairs_block p sides (qs ++ q ∷ []) ≡ joined (pairs_block p sides qs) (pair_block p sides q)
pairs_push p sides [] q = joined_done (pair_block p sides q)
pairs_push p sides (x ∷ qs) q =
    ap (λ z. joined (pair_block p sides x) z) (pairs_push p sides qs q)
    ∙ sym (joined_assoc (pair_block p sides x) (pairs_block p sides qs) (pair_block p sides q))

or_true : (a : Bool) → (a || true) ≡ true
or_true true = refl
or_true false = refl

any_flipped : (qs : List PairOfCode) (k : ℕ) (q d : PairOfCode) → k < length qs → q ≡ get_or qs k d → q.flip ≡ true → is_any_flipped (map pair_seen qs) ≡ true
any_flipped [] k q d less is flip = absurd (omega arith)
any_flipped (x ∷ qs) zero q d less is flip = ap (λ f. f || is_any_flipped (map pair_seen qs)) (sym (ap (λ (y : PairOfCode). y.flip) is) ∙ flip)
any_flipped (x ∷ qs) (suc k) q d less is flip = ap (λ y. x.flip || y) (any_flipped qs k q d (omega arith) is flip) ∙ or_true x.flip

record IsWithinBoth (n m : ℕ) (q : PairOfCode) : Type 0 where
  less : q.left < n
  fewer : q.right < m

within_at : (n m : ℕ) (qs : List PairOfCode) (k : ℕ) (q d : PairOfCode) → k < length qs → q ≡ get_or qs k d → AreWithin n m (map pair_seen qs)
    → IsWithinBoth n m q
within_at n m [] k q d less is h = absurd (omega arith)
within_at n m (x ∷ qs) zero q d less is h = subst (IsWithinBoth n m) (sym is) (record { less = h.0; fewer = h.1 })
within_at n m (x ∷ qs) (suc k) q d less is h = within_at n m qs k q d (omega arith) is h.2

-- as far as the loop has come
abbrev pub PairsSoFar : List LeafStmt → List LeafStmt → Place → Target → Option Target → List ℕ → List ℕ → List PairOfCode → ℕ → Type 0
PairsSoFar before after p left right gives gives_back pairs k =
    (ts : List DataType) (nodes : List Node) (n m : ℕ) (sides : Sides) → HasSides ts nodes n m left right gives sides
    → (is_any_flipped (map pair_seen pairs) ≡ true → GivesBack nodes n gives_back sides) → AreWithin n m (map pair_seen pairs)
    → Emitted nodes before after (pairs_block p sides (map pair_seen (take k pairs)))

pub pairs_none : (before : List LeafStmt) (p : Place) (left : Target) (right : Option Target) (gives gives_back : List ℕ) (pairs : List PairOfCode)
    → PairsSoFar before before p left right gives gives_back pairs 0
pairs_none before p left right gives gives_back pairs = λ ts nodes n m sides has back within. emitted_none nodes before

pub pairs_more : (before mid after : List LeafStmt) (p : Place) (left : Target) (right : Option Target) (gives gives_back : List ℕ) (pairs : List PairOfCode)
    (k : ℕ) (q d : PairOfCode)
    → k < length pairs → q ≡ get_or pairs k d → PairsSoFar before mid p left right gives gives_back pairs k
    → DrivesPair mid after p left right gives gives_back q
    → PairsSoFar before after p left right gives gives_back pairs (k + 1)
pairs_more before mid after p left right gives gives_back pairs k q d less is so_far one = λ ts nodes n m sides has back within.
    let at = within_at n m pairs k q d less is within in
    let own = one ts nodes n m sides has (λ flip. back (any_flipped pairs k q d less is flip)) at.less at.fewer in
    let next : map pair_seen (take (k + 1) pairs) ≡ map pair_seen (take k pairs) ++ pair_seen q ∷ [] =
    map_more pair_seen pairs k d less ∙ ap (λ x. map pair_seen (take k pairs) ++ pair_seen x ∷ []) (sym is) in
    emitted_as nodes before after (joined (pairs_block p sides (map pair_seen (take k pairs))) (pair_block p sides (pair_seen q)))
    (pairs_block p sides (map pair_seen (take (k + 1) pairs)))
    (sym (ap (pairs_block p sides) next ∙ pairs_push p sides (map pair_seen (take k pairs)) (pair_seen q)))
    (emitted_then nodes before mid after (pairs_block p sides (map pair_seen (take k pairs))) (pair_block p sides (pair_seen q))
    (so_far ts nodes n m sides has back within) own)

pub pairs_all : (before after : List LeafStmt) (p : Place) (left : Target) (right : Option Target) (gives gives_back : List ℕ) (pairs : List PairOfCode)
    (k : ℕ) → length pairs ≤ k
    → PairsSoFar before after p left right gives gives_back pairs k → DrivesPairs before after p left right gives gives_back pairs
pairs_all before after p left right gives gives_back pairs k end so_far = λ ts nodes n m sides has back within.
    emitted_as nodes before after (pairs_block p sides (map pair_seen (take k pairs))) (pairs_block p sides (map pair_seen pairs))
    (ap (λ l. pairs_block p sides (map pair_seen l)) (take_all k pairs end)) (so_far ts nodes n m sides has back within)

-- a leaf of `is invalid`
pub zero_driven : (before after : List LeafStmt) (p : Place) (t : Target) (k id : ℕ) (sinks : List Bool) (base leaf : ℕ) (may : Bool) → t.base ≡ Some base
    → leaf ≡ saturated (base + k) → may ≡ sinks_in sinks leaf → may ≡ true → Drives before after p t k id → DrivesZero before after p t k id sinks
zero_driven before after p t k id sinks base leaf may based at told is_sink h = λ ts nodes n r target less stands.
    let rbase : r.base ≡ Some base = sym target.names.base ∙ based in
    let room : IsWithin (Some base) n = subst (λ b. IsWithin b n) rbase target.room in
    let exact : leaf ≡ base + k = omega arith in
    let is : sinks_in sinks (base + k) ≡ true = ap (sinks_in sinks) (sym exact) ∙ sym told ∙ is_sink in
    let b : LeafBlock = driven_from p (Some base) r k zeros in
    emitted_as nodes before after (driven p r k zeros) (invalid_leaf (sinks_in sinks) p r.base r k)
    (ap (λ x. driven_from p x r k zeros) rbase ∙ ap (λ f. if f then b else done) (sym is) ∙ ap (λ x. invalid_leaf (sinks_in sinks) p x r k) (sym rbase))
    (h ts nodes n r zeros target less stands)

pub zero_idle : (before : List LeafStmt) (p : Place) (t : Target) (k id : ℕ) (sinks : List Bool) (base leaf : ℕ) (may : Bool) → t.base ≡ Some base
    → leaf ≡ saturated (base + k) → may ≡ sinks_in sinks leaf → may ≡ false → DrivesZero before before p t k id sinks
zero_idle before p t k id sinks base leaf may based at told is_none = λ ts nodes n r target less stands.
    let rbase : r.base ≡ Some base = sym target.names.base ∙ based in
    let room : IsWithin (Some base) n = subst (λ b. IsWithin b n) rbase target.room in
    let exact : leaf ≡ base + k = omega arith in
    let is : sinks_in sinks (base + k) ≡ false = ap (sinks_in sinks) (sym exact) ∙ sym told ∙ is_none in
    let b : LeafBlock = driven_from p (Some base) r k zeros in
    emitted_as nodes before before done (invalid_leaf (sinks_in sinks) p r.base r k)
    (ap (λ f. if f then b else done) (sym is) ∙ ap (λ x. invalid_leaf (sinks_in sinks) p x r k) (sym rbase)) (emitted_none nodes before)

invalid_push : (may : ℕ → Bool) (p : Place) (r : over.Target) (k n : ℕ)
    → invalid_leaves may p r k (n + 1) ≡ joined (invalid_leaves may p r k n) (invalid_leaf may p r.base r (k + n))
invalid_push may p r k zero =
    let e : k ≡ k + 0 = omega arith in joined_done (invalid_leaf may p r.base r k) ∙ ap (λ i. invalid_leaf may p r.base r i) e
invalid_push may p r k (suc n) =
    let here : LeafBlock = invalid_leaf may p r.base r k in
    let e : suc n + 1 ≡ suc (n + 1) = omega arith in
    let g : suc k + n ≡ k + suc n = omega arith in
    ap (invalid_leaves may p r k) e ∙ ap (λ z. joined here z) (invalid_push may p r (suc k) n)
    ∙ sym (joined_assoc here (invalid_leaves may p r (suc k) n) (invalid_leaf may p r.base r (suc k + n)))
    ∙ ap (λ i. joined (joined here (invalid_leaves may p r (suc k) n)) (invalid_leaf may p r.base r i)) g

no_leaves_invalid : (may : ℕ → Bool) (p : Place) (r : over.Target) (k n : ℕ) → r.base ≡ None → invalid_leaves may p r k n ≡ done
no_leaves_invalid may p r k zero none = refl
no_leaves_invalid may p r k (suc n) none =
    ap (λ b. joined (invalid_leaf may p b r k) (invalid_leaves may p r (suc k) n)) none ∙ no_leaves_invalid may p r (suc k) n none

pub zeros_nowhere : (ts : List DataType) (before : List LeafStmt) (p : Place) (t : Target) (id : ℕ) (sinks : List Bool) → t.base ≡ None
    → DrivesZeros ts before before p t id sinks
zeros_nowhere ts before p t id sinks none = λ nodes r target stands.
    emitted_as nodes before before done (invalid_block (sinks_in sinks) p r)
    (sym (no_leaves_invalid (sinks_in sinks) p r 0 (leaf_count r.data_type) (sym target.names.base ∙ none))) (emitted_none nodes before)

-- as far as the loop has come
abbrev pub ZerosSoFar : List DataType → List LeafStmt → List LeafStmt → Place → Target → ℕ → List Bool → ℕ → Type 0
ZerosSoFar ts before after p t id sinks k =
    (nodes : List Node) (r : over.Target) → HasTarget ts nodes (leaf_count r.data_type) t r → StandsFor nodes id zeros
    → Emitted nodes before after (invalid_leaves (sinks_in sinks) p r 0 k)

pub zeros_none : (ts : List DataType) (before : List LeafStmt) (p : Place) (t : Target) (id : ℕ) (sinks : List Bool)
    → ZerosSoFar ts before before p t id sinks 0
zeros_none ts before p t id sinks = λ nodes r target stands. emitted_none nodes before

pub zeros_more : (ts : List DataType) (before mid after : List LeafStmt) (p : Place) (t : Target) (id : ℕ) (sinks : List Bool) (k : ℕ)
    → k < saturated (leaf_count (found_type ts t.found))
    → ZerosSoFar ts before mid p t id sinks k → DrivesZero mid after p t k id sinks → ZerosSoFar ts before after p t id sinks (k + 1)
zeros_more ts before mid after p t id sinks k less so_far one = λ nodes r target stands.
    let below : k < leaf_count r.data_type = omega (arith, less, ap leaf_count target.names.data_type) in
    let may = sinks_in sinks in
    let e : 0 + k ≡ k = omega arith in
    emitted_as nodes before after (joined (invalid_leaves may p r 0 k) (invalid_leaf may p r.base r k)) (invalid_leaves may p r 0 (k + 1))
    (ap (λ i. joined (invalid_leaves may p r 0 k) (invalid_leaf may p r.base r i)) (sym e) ∙ sym (invalid_push may p r 0 k))
    (emitted_then nodes before mid after (invalid_leaves may p r 0 k) (invalid_leaf may p r.base r k) (so_far nodes r target stands)
    (one ts nodes (leaf_count r.data_type) r target below stands))

pub zeros_all : (ts : List DataType) (before after : List LeafStmt) (p : Place) (t : Target) (id : ℕ) (sinks : List Bool) (k base : ℕ) → t.base ≡ Some base
    → k ≡ saturated (leaf_count (found_type ts t.found)) → ZerosSoFar ts before after p t id sinks k → DrivesZeros ts before after p t id sinks
zeros_all ts before after p t id sinks k base based end so_far = λ nodes r target stands.
    let rbase : r.base ≡ Some base = sym target.names.base ∙ based in
    let n : ℕ = leaf_count r.data_type in
    let room : IsWithin (Some base) n = subst (λ b. IsWithin b n) rbase target.room in
    let same : leaf_count (found_type ts t.found) ≡ n = ap leaf_count target.names.data_type in
    let exact : k ≡ n = omega arith in
    emitted_as nodes before after (invalid_leaves (sinks_in sinks) p r 0 k) (invalid_block (sinks_in sinks) p r)
    (ap (invalid_leaves (sinks_in sinks) p r 0) exact)
    (so_far nodes r target stands)
