-- The indices of a reference as nodes, each behind the one before it.
use Rattle.std.proofs.Common.{◌≡◌, ℕ, zero, suc, ◌+◌, ◌<◌, List, [], ◌∷◌, ◌++◌, map, length, drop, get_or, min, Bool, true, Some, None, nat_lt, refl, sym, ap, ◌∙◌, subst, arith}
use Rattle.std.proofs.lemmas.List.{drop-map, drop_more, length-drop, length-map}
use Rattle.std.specs.Prelude.{◌&&◌}
use Rattle.fir_types.specs.declared.note.Pick.{Pick as ElementsOfCode}
use Rattle.fir_types.specs.working.Notes.{Pick}
use Rattle.fir_types.specs.working.Noted.{pick_seen}
use Rattle.fir_leaf.specs.declared.node.Node.{Node}
use Rattle.fir_leaf.specs.declared.node.Node.TheVariants as node
use Rattle.fir_leaf.specs.declared.node.Pick.{Pick as PickOfCode}
use Rattle.fir_leaf.specs.working.Nodes.{AllBelow, Grows, entries, picks_at, picks_in}
use Rattle.fir_meaning.specs.working.Terms.{Picks, no_picks}
use Rattle.fir_ground.specs.declared.references.Chain.{Chain}
use Rattle.fir_ground.specs.declared.references.Index.{Index as IndexOfCode}
use Rattle.fir_leaf_pairs.specs.working.TargetNames.{PicksWithin}
use Rattle.fir_ground.specs.working.Indices.{AreIndices, Index, IsChained, index_seen, pick_behind, picks_behind, stride_where, there_behind}
use Rattle.fir_leaf_pairs.proofs.Entries.{grows_none, grows_on, stands_new}
use Rattle.fir_leaf_pairs.proofs.Giving.{term_keeps}

-- one index more
pub chained_one : (old new : List Node) (chain next : Chain) (i : IndexOfCode) (p : ElementsOfCode) (own : PickOfCode) (id : ℕ) (ps : Picks) → picks_at (entries old) chain.picks ≡ ps
    → own.before ≡ chain.picks → own.place ≡ i.place → own.index ≡ i.node → own.length ≡ p.length → own.stride ≡ stride_where (chain.is_there && nat_lt 0 p.length) p.stride
    → id ≡ length old → new ≡ old ++ node.Pick own ∷ [] → next.is_there ≡ (chain.is_there && nat_lt 0 p.length) → next.picks ≡ Some id
    → IsChained old new next (chain.is_there && nat_lt 0 p.length) (pick_behind chain.is_there ps (index_seen old i) (pick_seen p))
chained_one old new chain next i p own id ps picks before place index long stride at made there last =
    let stands = stands_new old new (node.Pick own) id made at in record {
      grows = stands.grows;
      is_there = there;
      within = rw last stands.within;
      picks = rw last (ap picks_in stands.entry ∙ rw (before, picks, place, index, long, stride) refl);
    }

-- so far along the indices: those that are left lead to the same
pub record ChainedSoFar (old now : List Node) (chain : Chain) (whole left : List Index) (all picks : List Pick) : Type 0 where
  pub grows : Grows old now
  pub within : PicksWithin (length now) chain.picks
  pub same_there : there_behind chain.is_there left picks ≡ there_behind true whole all
  pub same_picks : picks_behind chain.is_there (picks_at (entries now) chain.picks) left picks ≡ picks_behind true no_picks whole all

pub chained_begin : (old : List Node) (chain : Chain) (whole : List Index) (all : List Pick) → chain.is_there ≡ true → chain.picks ≡ None → ChainedSoFar old old chain whole whole all all
chained_begin old chain whole all there none = record {
  grows = grows_none old;
  within = rw none tt;
  same_there = ap (λ b. there_behind b whole all) there;
  same_picks = ap (λ b. picks_behind b (picks_at (entries old) chain.picks) whole all) there ∙ ap (λ o. picks_behind true (picks_at (entries old) o) whole all) none;
}

chained_next : (old now new : List Node) (chain next : Chain) (whole left : List Index) (all more : List Pick) (i : Index) (p : Pick) → ChainedSoFar old now chain whole (i ∷ left) all (p ∷ more)
    → IsChained now new next (chain.is_there && nat_lt 0 p.length) (pick_behind chain.is_there (picks_at (entries now) chain.picks) i p) → ChainedSoFar old new next whole left all more
chained_next old now new chain next whole left all more i p so_far one = record {
  grows = grows_on old now new so_far.grows one.grows;
  within = one.within;
  same_there = ap (λ b. there_behind b left more) one.is_there ∙ so_far.same_there;
  same_picks =
      ap (λ b. picks_behind b (picks_at (entries new) next.picks) left more) one.is_there
      ∙ ap (λ ps. picks_behind (chain.is_there && nat_lt 0 p.length) ps left more) one.picks ∙ so_far.same_picks;
}

-- where either list ends, all are passed
no_more_there : (b : Bool) (left : List Index) (more : List Pick) → min (length left) (length more) ≡ 0 → there_behind b left more ≡ b
no_more_there b [] more e = refl
no_more_there b (i ∷ left) [] e = refl
no_more_there b (i ∷ left) (p ∷ more) e = absurd (omega arith)

no_more_picks : (b : Bool) (ps : Picks) (left : List Index) (more : List Pick) → min (length left) (length more) ≡ 0 → picks_behind b ps left more ≡ ps
no_more_picks b ps [] more e = refl
no_more_picks b ps (i ∷ left) [] e = refl
no_more_picks b ps (i ∷ left) (p ∷ more) e = absurd (omega arith)

chained_end : (old now : List Node) (chain : Chain) (whole left : List Index) (all more : List Pick) → ChainedSoFar old now chain whole left all more → min (length left) (length more) ≡ 0
    → IsChained old now chain (there_behind true whole all) (picks_behind true no_picks whole all)
chained_end old now chain whole left all more so_far none = record {
  grows = so_far.grows;
  is_there = sym (no_more_there chain.is_there left more none) ∙ so_far.same_there;
  within = so_far.within;
  picks = sym (no_more_picks chain.is_there (picks_at (entries now) chain.picks) left more none) ∙ so_far.same_picks;
}

-- an index stays what it is
pub index_keeps : (old new : List Node) (i : IndexOfCode) → Grows old new → i.node < length old → index_seen new i ≡ index_seen old i
index_keeps old new i g lt = ap (λ t. record { place = i.place; term = t }) (term_keeps old new i.node g lt)

index_below : (n : ℕ) (is : List IndexOfCode) (k : ℕ) (d : IndexOfCode) → AllBelow n (map (λ (i : IndexOfCode). i.node) is) → k < length is → (get_or is k d).node < n
index_below n [] k d b lt = absurd (omega arith)
index_below n (i ∷ is) zero d b lt = b.0
index_below n (i ∷ is) (suc k) d b lt = index_below n is k d b.1 (omega arith)

-- in front of an index, what is left of what it means
seen_next : (nodes : List Node) (own : List IndexOfCode) (meant : List Index) (k : ℕ) (i : IndexOfCode) → map (index_seen nodes) own ≡ meant → k < length own → i ≡ get_or own k i
    → drop k meant ≡ index_seen nodes i ∷ drop (k + 1) meant
seen_next nodes own meant k i are lt at =
    ap (drop k) (sym are) ∙ drop-map (index_seen nodes) k own ∙ ap (map (index_seen nodes)) (drop_more own k i lt)
    ∙ ap (λ x. index_seen nodes x ∷ map (index_seen nodes) (drop (k + 1) own)) (sym at)
    ∙ ap (λ l. index_seen nodes i ∷ l) (sym (drop-map (index_seen nodes) (k + 1) own) ∙ ap (drop (k + 1)) are)

elements_next : (own : List ElementsOfCode) (k : ℕ) (p : ElementsOfCode) → k < length own → p ≡ get_or own k p
    → drop k (map pick_seen own) ≡ pick_seen p ∷ drop (k + 1) (map pick_seen own)
elements_next own k p lt at =
    drop-map pick_seen k own ∙ ap (map pick_seen) (drop_more own k p lt) ∙ ap (λ x. pick_seen x ∷ map pick_seen (drop (k + 1) own)) (sym at)
    ∙ ap (λ l. pick_seen p ∷ l) (sym (drop-map pick_seen (k + 1) own))

pub chained_more : (old now new : List Node) (chain next : Chain) (own : List IndexOfCode) (meant : List Index) (picks : List ElementsOfCode) (k : ℕ) (i : IndexOfCode) (p : ElementsOfCode)
    → AreIndices old own meant → k < length own → k < length picks → i ≡ get_or own k i → p ≡ get_or picks k p
    → ChainedSoFar old now chain meant (drop k meant) (map pick_seen picks) (drop k (map pick_seen picks))
    → ((ps : Picks) → PicksWithin (length now) chain.picks → picks_at (entries now) chain.picks ≡ ps
    → IsChained now new next (chain.is_there && nat_lt 0 p.length) (pick_behind chain.is_there ps (index_seen now i) (pick_seen p)))
    → ChainedSoFar old new next meant (drop (k + 1) meant) (map pick_seen picks) (drop (k + 1) (map pick_seen picks))
chained_more old now new chain next own meant picks k i p are lt_own lt_picks at_own at_picks so_far step =
    let ahead = drop (k + 1) meant in
    let more = drop (k + 1) (map pick_seen picks) in
    let left = seen_next old own meant k i are.are lt_own at_own in
    let picks_left = elements_next picks k p lt_picks at_picks in
    let below : i.node < length old = subst (λ (x : IndexOfCode). x.node < length old) (sym at_own) (index_below (length old) own k i are.within lt_own) in
    let one = step (picks_at (entries now) chain.picks) so_far.within refl in
    let there = chain.is_there && nat_lt 0 p.length in
    chained_next old now new chain next meant ahead (map pick_seen picks) more (index_seen old i) (pick_seen p)
    (subst (λ l. ChainedSoFar old now chain meant (index_seen old i ∷ ahead) (map pick_seen picks) l) picks_left
    (subst (λ l. ChainedSoFar old now chain meant l (map pick_seen picks) (drop k (map pick_seen picks))) left so_far))
    (subst (λ x. IsChained now new next there (pick_behind chain.is_there (picks_at (entries now) chain.picks) x (pick_seen p))) (index_keeps old now i so_far.grows below) one)

pub chained_all : (old now : List Node) (chain : Chain) (own : List IndexOfCode) (meant : List Index) (picks : List ElementsOfCode) (k : ℕ) → AreIndices old own meant
    → k ≡ min (length own) (length picks) → ChainedSoFar old now chain meant (drop k meant) (map pick_seen picks) (drop k (map pick_seen picks))
    → IsChained old now chain (there_behind true meant (map pick_seen picks)) (picks_behind true no_picks meant (map pick_seen picks))
chained_all old now chain own meant picks k are all so_far =
    let long : length meant ≡ length own = sym (ap length are.are) ∙ length-map own (index_seen old) in
    chained_end old now chain meant (drop k meant) (map pick_seen picks) (drop k (map pick_seen picks)) so_far
    (omega (arith, length-drop k meant, length-drop k (map pick_seen picks), length-map picks pick_seen, long, all))
