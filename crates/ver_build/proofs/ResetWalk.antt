-- The walk along the words of the state for the nets of their resets: each word that needs one gets the next free inner name.
-- A word stands once, so what has been noted for it stays.
use Rattle.std.proofs.Common.{◌≡◌, ℕ, suc, ◌+◌, ◌^◌, ◌<◌, ◌≤◌, List, [], ◌∷◌, ◌++◌, length, get_or, take, drop, Bool, true, false, refl, sym, ap, ◌∙◌, inl, inr, ◌⊎◌, ⊎_elim, subst, arith, Option, None, append-nil}
use Rattle.std.specs.Prelude.{slice_get, MatchBool}
use Rattle.std.specs.Option.{is_some}
use Rattle.std.specs.List.{AllByRecursion}
use Rattle.std.proofs.lemmas.List.{take_more, take-append-drop}
use Rattle.std.proofs.lemmas.Option.{slice_get_read, slice_get_within}
use Rattle.std.proofs.Math.Seq.{drop-cons, take-length}
use Rattle.fir_base.specs.Lists.{In, Distinct}
use Rattle.fir_base.proofs.Each.{all_joined}
use Rattle.fir_base.proofs.Members.{in_left, in_right, in_either}
use Rattle.fir_base.proofs.Twins.{apart}
use Rattle.ver_words.specs.Names.{IsName}
use Rattle.fir_net.specs.declared.net.FlatNet.{FlatNet}
use Rattle.fir_net.specs.working.IsNet.{IsNet}
use Rattle.fir_net_names.specs.declared.name_table.NameTable.{NameTable}
use Rattle.fir_net_names.specs.Names.{inner_name}
use Rattle.fir_net_names.specs.working.LeafNamed.{with_some, name_at}
use Rattle.fir_net_names.specs.working.TableNames.{table_names}
use Rattle.ver_build.specs.declared.places.Place.{Place}
use Rattle.ver_build.specs.declared.places.NodePlace.{NodePlace}
use Rattle.ver_build.specs.working.Places.{AreInnerTo, AreResetNets, leaf_needs, reset_names}
use Rattle.ver_build.specs.working.Walks.{HasRoom, IsResetNamed, IsResetPassed}
use Rattle.ver_build.proofs.Lists.{flat_more, flat_same}
use Rattle.ver_build.proofs.Walk.{joined_to}

-- the first i words have the names that they need, and no other leaf has one
pub record ResetWalk (net : FlatNet) (t : NameTable) (leaves : List Place) (nodes : List NodePlace) (first : ℕ) (names : List (Option (List ℕ))) (i to : ℕ) : Type 0 where
  pub room : HasRoom net.leaves names
  pub passed : (k : ℕ) → In (take i net.state) k → is_some (name_at names k) ≡ leaf_needs leaves nodes (slice_get net.leaves k)
  pub others : (k : ℕ) → (In (take i net.state) k → ⊥) → name_at names k ≡ None
  pub named : AreInnerTo (table_names t) first (reset_names names (take i net.state)) to
  pub spelled : AllByRecursion IsName (reset_names names (take i net.state))

module _ (net : FlatNet) (whole : IsNet net) (t : NameTable) (leaves : List Place) (nodes : List NodePlace) (first : ℕ) where
  abbrev Walk : List (Option (List ℕ)) → ℕ → ℕ → Type 0
  Walk names i to = ResetWalk net t leaves nodes first names i to

  walk_begins : Walk [] 0 first
  walk_begins = record { room = inl refl; passed = λ k m. absurd m; others = λ k n. refl; named = refl; spelled = tt }

  module _ (names : List (Option (List ℕ))) (i from : ℕ) (k : ℕ) (less : i < length net.state) (is : k ≡ get_or net.state i k) (walk : Walk names i from) where
    abbrev passed : List ℕ
    passed = take i net.state

    one_more : take (i + 1) net.state ≡ take i net.state ++ k ∷ []
    one_more = take_more net.state i k less ∙ ap (λ j. take i net.state ++ j ∷ []) (sym is)

    new_word : In (take i net.state) k → ⊥
    new_word m =
        let behind : drop i net.state ≡ get_or net.state i k ∷ drop (suc i) net.state = drop-cons net.state i k less in
        let first_behind : In (drop i net.state) k = rw behind (inl (sym is)) in
        apart (take i net.state) (drop i net.state) (subst Distinct (sym (take-append-drop i net.state)) whole.state.once) k m first_behind

    there : k < length net.leaves
    there =
        let at = slice_get_read net.state (length net.state) i k refl less is in
        let leaf = whole.state.only i k at in slice_get_within net.leaves k leaf.0 leaf.1

    either : (j : ℕ) → In (take (i + 1) net.state) j → In (take i net.state) j ⊎ (k ≡ j)
    either j m =
        ⊎_elim (λ (n : In (take i net.state) j). inl n) (λ (n : In (k ∷ []) j). ⊎_elim (λ (e : k ≡ j). inr e) (λ (o : ⊥). absurd o) n)
        (in_either (take i net.state) (k ∷ []) j (subst (λ (ks : List ℕ). In ks j) one_more m))

    left : (j : ℕ) → (In (take (i + 1) net.state) j → ⊥) → (In (take i net.state) j → ⊥) × (j ≡ k → ⊥)
    left j n = (
      λ m. n (subst (λ (ks : List ℕ). In ks j) (sym one_more) (in_left (take i net.state) (k ∷ []) j m)),
      λ e. n (subst (λ (ks : List ℕ). In ks j) (sym one_more) (in_right (take i net.state) (k ∷ []) j (inl (sym e)))),
    )

    names_more : (new : List (Option (List ℕ))) → ((j : ℕ) → In (take i net.state) j → name_at new j ≡ name_at names j)
        → reset_names new (take (i + 1) net.state) ≡ reset_names names (take i net.state) ++ with_some (name_at new k) []
    names_more new same =
        flat_more (λ (j : ℕ). with_some (name_at new j) []) net.state i k less is
        ∙ ap (λ (xs : List (List ℕ)). xs ++ with_some (name_at new k) [])
        (flat_same (λ (j : ℕ). with_some (name_at new j) []) (λ (j : ℕ). with_some (name_at names j) []) (take i net.state)
        (λ j m. ap (λ (n : Option (List ℕ)). with_some n []) (same j m)))

    -- a word that needs no net
    goes_by : leaf_needs leaves nodes (slice_get net.leaves k) ≡ false → Walk names (i + 1) from
    goes_by none =
        let without : name_at names k ≡ None = walk.others k new_word in
        let same : reset_names names (take (i + 1) net.state) ≡ reset_names names (take i net.state) =
        names_more names (λ j m. refl) ∙ ap (λ (n : Option (List ℕ)). reset_names names (take i net.state) ++ with_some n []) without
        ∙ append-nil (reset_names names (take i net.state)) in
        record {
          room = walk.room;
          passed = λ j m.
              ⊎_elim (λ (n : In (take i net.state) j). walk.passed j n)
              (λ (e : k ≡ j). subst (λ (x : ℕ). is_some (name_at names x) ≡ leaf_needs leaves nodes (slice_get net.leaves x)) e (rw (without, none) refl))
              (either j m);
          others = λ j n. walk.others j (left j n).0;
          named = rw same walk.named;
          spelled = rw same walk.spelled;
        }

    -- one that needs a net
    goes_on : (new : List (Option (List ℕ))) (to : ℕ) → leaf_needs leaves nodes (slice_get net.leaves k) ≡ true → IsResetNamed net t k from names new to
        → Walk new (i + 1) to
    goes_on new to needs next =
        let noted = next.noted walk.room there in
        let number = next.number in
        let kept : (j : ℕ) → In (take i net.state) j → name_at new j ≡ name_at names j =
        λ j m. noted.others j (λ e. new_word (subst (In (take i net.state)) e m)) in
        let more : reset_names new (take (i + 1) net.state) ≡ reset_names names (take i net.state) ++ inner_name number ∷ [] =
        names_more new kept ∙ ap (λ (n : Option (List ℕ)). reset_names names (take i net.state) ++ with_some n []) noted.here in
        record {
          room = inr noted.room;
          passed = λ j m.
              ⊎_elim (λ (n : In (take i net.state) j). ap is_some (kept j n) ∙ walk.passed j n)
              (λ (e : k ≡ j). subst (λ (x : ℕ). is_some (name_at new x) ≡ leaf_needs leaves nodes (slice_get net.leaves x)) e (ap is_some noted.here ∙ sym needs))
              (either j m);
          others = λ j n. let other = left j n in noted.others j other.1 ∙ walk.others j other.0;
          named =
              rw more (joined_to (table_names t) (reset_names names (take i net.state)) (inner_name number ∷ []) first from to walk.named
              (number, next.first, refl, sym next.behind));
          spelled = rw more (all_joined IsName (reset_names names (take i net.state)) (inner_name number ∷ []) walk.spelled (next.spelled, tt));
        }

    walk_step : (new : List (Option (List ℕ))) (to : ℕ) → IsResetPassed net t leaves nodes k from names new to → Walk new (i + 1) to
    walk_step new to step = by (leaf_needs leaves nodes (slice_get net.leaves k)) refl step
      where
        by : (b : Bool) → leaf_needs leaves nodes (slice_get net.leaves k) ≡ b
            → MatchBool b (IsResetNamed net t k from names new to) ((new ≡ names) × (to ≡ from)) → Walk new (i + 1) to
        by true e h = goes_on new to e h
        by false e h = rw (h.0, h.1) (goes_by e)

  walk_ends : (names : List (Option (List ℕ))) (i to : ℕ) → i ≡ length net.state → to ≤ 2 ^ 127 → Walk names i to
      → (a : AreResetNets net t leaves nodes first names) × (a.last ≡ to)
  walk_ends names i to end near walk =
      let all : take i net.state ≡ net.state = ap (λ (n : ℕ). take n net.state) end ∙ take-length net.state in (
        record {
          each = λ k m. walk.passed k (subst (λ (ks : List ℕ). In ks k) (sym all) m);
          last = to;
          named = subst (λ (ks : List ℕ). AreInnerTo (table_names t) first (reset_names names ks) to) all walk.named;
          near = near;
          spelled = subst (λ (ks : List ℕ). AllByRecursion IsName (reset_names names ks)) all walk.spelled;
        },
        refl,
      )

-- the loop along the words
pub record ResetLoop (net : FlatNet) (t : NameTable) (leaves : List Place) (nodes : List NodePlace) (first : ℕ) (names : List (Option (List ℕ))) (i to : ℕ) : Type 0 where
  pub near : to ≤ 2 ^ 127
  pub walk : IsNet net → ResetWalk net t leaves nodes first names i to

pub loop_begins : (net : FlatNet) (t : NameTable) (leaves : List Place) (nodes : List NodePlace) (first : ℕ) → first ≤ 2 ^ 127
    → ResetLoop net t leaves nodes first [] 0 first
loop_begins net t leaves nodes first near = record { near = near; walk = λ whole. walk_begins net whole t leaves nodes first }

pub loop_goes_on : (net : FlatNet) (t : NameTable) (leaves : List Place) (nodes : List NodePlace) (first : ℕ) (names new : List (Option (List ℕ))) (i from to k : ℕ)
    → i < length net.state → k ≡ get_or net.state i k → from ≤ 2 ^ 126 → to ≤ from + 2 ^ 63 → IsResetPassed net t leaves nodes k from names new to
    → ResetLoop net t leaves nodes first names i from → ResetLoop net t leaves nodes first new (i + 1) to
loop_goes_on net t leaves nodes first names new i from to k less is few near step before = record {
  near = omega arith;
  walk = λ whole. walk_step net whole t leaves nodes first names i from k less is (before.walk whole) new to step;
}

pub loop_ends : (net : FlatNet) (t : NameTable) (leaves : List Place) (nodes : List NodePlace) (first : ℕ) (names : List (Option (List ℕ))) (i to : ℕ)
    → i ≡ length net.state → ResetLoop net t leaves nodes first names i to → IsNet net
    → (a : AreResetNets net t leaves nodes first names) × (a.last ≡ to)
loop_ends net t leaves nodes first names i to end before whole = walk_ends net whole t leaves nodes first names i to end before.near (before.walk whole)
