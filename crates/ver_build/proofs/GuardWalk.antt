-- The walk along the arrays of the state for the nets of their writes: each write that needs them gets the next two free inner names.
-- An array stands once, so what has been noted for it stays.
use Rattle.std.proofs.Common.{◌≡◌, ℕ, suc, ◌+◌, ◌^◌, ◌<◌, ◌≤◌, List, [], ◌∷◌, ◌++◌, length, get_or, take, drop, flat_map, refl, sym, ap, ◌∙◌, inl, ⊎_elim, subst, arith, Option, Some, None, unwrap_or, append-nil}
use Rattle.std.specs.Prelude.{slice_get}
use Rattle.std.specs.Option.{is_some}
use Rattle.std.specs.List.{AllByRecursion}
use Rattle.std.proofs.lemmas.List.{length-set, take_more, take-append-drop, length-append}
use Rattle.std.proofs.lemmas.Bool.{cases_lt}
use Rattle.std.proofs.lemmas.Grind.{flat_map-append}
use Rattle.std.proofs.lemmas.Option.{slice_get_read, slice_get_within, unwrap_or-slice_get}
use Rattle.std.proofs.Math.Seq.{drop-cons, take-length}
use Rattle.fir_base.specs.Lists.{In, Distinct}
use Rattle.fir_base.proofs.Each.{all_joined}
use Rattle.fir_base.proofs.Elements.{there as there_is, get_left, get_behind}
use Rattle.fir_base.proofs.Members.{in_either}
use Rattle.fir_base.proofs.Twins.{apart}
use Rattle.ver_words.specs.Names.{IsName}
use Rattle.fir_net.specs.declared.array.Array.{Array}
use Rattle.fir_net.specs.declared.array.ArrayWrite.{ArrayWrite}
use Rattle.fir_net.specs.declared.net.FlatNet.{FlatNet}
use Rattle.fir_net.specs.working.IsNet.{IsNet}
use Rattle.fir_net_names.specs.declared.name_table.NameTable.{NameTable}
use Rattle.fir_net_names.specs.working.TableNames.{table_names}
use Rattle.ver_build.specs.declared.places.Guard.{Guard}
use Rattle.ver_build.specs.declared.places.Place.{Place}
use Rattle.ver_build.specs.working.Places.{AreGuards, AreInnerTo, along_writes, array_guard_names, array_writes, guard_at, guard_names, needs_guard}
use Rattle.ver_build.specs.working.Walks.{AreArrayGuards, IsArrayPassed, IsGuardNamed}
use Rattle.ver_build.proofs.Lists.{flat_more, flat_same}
use Rattle.ver_build.proofs.Walk.{at_set, at_other, joined_to}
use Rattle.ver_build.proofs.WriteLists.{guards_along}

-- the first i arrays of the state have the nets that their writes need
pub record GuardWalk (net : FlatNet) (t : NameTable) (leaves : List Place) (first : ℕ) (guards : List (List (Option Guard))) (i to : ℕ) : Type 0 where
  pub room : length guards ≡ length net.arrays
  pub each :
      (k : ℕ) (a : Array) (j : ℕ) (w : ArrayWrite) → In (take i net.array_order) k → slice_get net.arrays k ≡ Some a → slice_get a.writes j ≡ Some w
      → is_some (guard_at guards k j) ≡ needs_guard net leaves a.words w
  pub named : AreInnerTo (table_names t) first (flat_map (array_guard_names net guards) (take i net.array_order)) to
  pub spelled : AllByRecursion IsName (flat_map (array_guard_names net guards) (take i net.array_order))

module _ (net : FlatNet) (whole : IsNet net) (t : NameTable) (leaves : List Place) (first : ℕ) where
  abbrev Walk : List (List (Option Guard)) → ℕ → ℕ → Type 0
  Walk guards i to = GuardWalk net t leaves first guards i to

  walk_begins : (guards : List (List (Option Guard))) → length guards ≡ length net.arrays → Walk guards 0 first
  walk_begins guards long = record { room = long; each = λ k a j w m. absurd m; named = refl; spelled = tt }

  module _ (guards new : List (List (Option Guard))) (i from to k : ℕ) (less : i < length net.array_order) (is : k ≡ get_or net.array_order i k)
      (step : IsArrayPassed net t leaves k from guards new to) (walk : Walk guards i from) where
    long : k < length guards
    long = let room = walk.room in let b = slice_get_within net.arrays k step.array step.at in omega arith

    one_more : take (i + 1) net.array_order ≡ take i net.array_order ++ k ∷ []
    one_more = take_more net.array_order i k less ∙ ap (λ j. take i net.array_order ++ j ∷ []) (sym is)

    new_array : In (take i net.array_order) k → ⊥
    new_array m =
        let behind : drop i net.array_order ≡ get_or net.array_order i k ∷ drop (suc i) net.array_order = drop-cons net.array_order i k less in
        let first_behind : In (drop i net.array_order) k = rw behind (inl (sym is)) in
        apart (take i net.array_order) (drop i net.array_order) (subst Distinct (sym (take-append-drop i net.array_order)) whole.array_state.once) k m first_behind

    -- the entries of arrays
    here : unwrap_or (slice_get new k) [] ≡ step.own
    here = ap (λ (gs : List (List (Option Guard))). unwrap_or (slice_get gs k) []) step.written ∙ at_set guards k step.own [] long

    there : (m : ℕ) → In (take i net.array_order) m → unwrap_or (slice_get new m) [] ≡ unwrap_or (slice_get guards m) []
    there m among =
        ap (λ (gs : List (List (Option Guard))). unwrap_or (slice_get gs m) []) step.written
        ∙ at_other guards k m step.own [] (λ e. new_array (subst (In (take i net.array_order)) e among))

    names_there : (m : ℕ) → In (take i net.array_order) m → array_guard_names net new m ≡ array_guard_names net guards m
    names_there m among =
        ap (λ (gs : List (Option Guard)). along_writes (λ j w. guard_names (unwrap_or (slice_get gs j) None)) 0 (array_writes (slice_get net.arrays m))) (there m among)

    names_here : array_guard_names net new k ≡ flat_map guard_names step.own
    names_here =
        ap (λ (o : Option Array). along_writes (λ j w. guard_names (guard_at new k j)) 0 (array_writes o)) step.at
        ∙ guards_along (guard_at new k) step.own step.array.writes 0 step.named.count
        (λ j.
        let start : 0 + j ≡ j = omega arith in
        ap (guard_at new k) start ∙ ap (λ (gs : List (Option Guard)). unwrap_or (slice_get gs j) None) here)

    names_more : flat_map (array_guard_names net new) (take (i + 1) net.array_order)
        ≡ flat_map (array_guard_names net guards) (take i net.array_order) ++ flat_map guard_names step.own
    names_more =
        flat_more (array_guard_names net new) net.array_order i k less is
        ∙ ap (λ (xs : List (List ℕ)). xs ++ array_guard_names net new k)
        (flat_same (array_guard_names net new) (array_guard_names net guards) (take i net.array_order) names_there)
        ∙ ap (λ (xs : List (List ℕ)). flat_map (array_guard_names net guards) (take i net.array_order) ++ xs) names_here

    each_more : (m : ℕ) (a : Array) (j : ℕ) (w : ArrayWrite) → In (take (i + 1) net.array_order) m → slice_get net.arrays m ≡ Some a
        → slice_get a.writes j ≡ Some w → is_some (guard_at new m j) ≡ needs_guard net leaves a.words w
    each_more m a j w among at write =
        ⊎_elim
        (λ (n : In (take i net.array_order) m).
        ap (λ (gs : List (Option Guard)). is_some (unwrap_or (slice_get gs j) None)) (there m n) ∙ walk.each m a j w n at write)
        (λ (n : In (k ∷ []) m).
        ⊎_elim
        (λ (e : k ≡ m).
        let both : Some step.array ≡ Some a = sym step.at ∙ ap (slice_get net.arrays) e ∙ at in
        let same : step.array ≡ a = cc in
        let written : slice_get step.array.writes j ≡ Some w = ap (λ (b : Array). slice_get b.writes j) same ∙ write in
        ap (λ (x : ℕ). is_some (guard_at new x j)) (sym e)
        ∙ ap (λ (gs : List (Option Guard)). is_some (unwrap_or (slice_get gs j) None)) here
        ∙ step.named.each j w written ∙ ap (λ (b : Array). needs_guard net leaves b.words w) same)
        (λ (o : ⊥). absurd o) n)
        (in_either (take i net.array_order) (k ∷ []) m (subst (λ (ks : List ℕ). In ks m) one_more among))

    walk_step : Walk new (i + 1) to
    walk_step = record {
      room = ap length step.written ∙ length-set guards k step.own ∙ walk.room;
      each = each_more;
      named =
          rw names_more (joined_to (table_names t) (flat_map (array_guard_names net guards) (take i net.array_order)) (flat_map guard_names step.own) first from to
          walk.named step.named.named);
      spelled =
          rw names_more (all_joined IsName (flat_map (array_guard_names net guards) (take i net.array_order)) (flat_map guard_names step.own) walk.spelled
          step.named.spelled);
    }

  walk_ends : (guards : List (List (Option Guard))) (i to : ℕ) → i ≡ length net.array_order → to ≤ 2 ^ 127 → Walk guards i to → AreGuards net t leaves first guards
  walk_ends guards i to end near walk =
      let all : take i net.array_order ≡ net.array_order = ap (λ (n : ℕ). take n net.array_order) end ∙ take-length net.array_order in
      record {
        each = λ k a j w m. walk.each k a j w (subst (λ (ks : List ℕ). In ks k) (sym all) m);
        last = to;
        named = subst (λ (ks : List ℕ). AreInnerTo (table_names t) first (flat_map (array_guard_names net guards) ks) to) all walk.named;
        near = near;
        spelled = subst (λ (ks : List ℕ). AllByRecursion IsName (flat_map (array_guard_names net guards) ks)) all walk.spelled;
      }

-- the loop along the arrays
pub record GuardLoop (net : FlatNet) (t : NameTable) (leaves : List Place) (first : ℕ) (guards : List (List (Option Guard))) (i to : ℕ) : Type 0 where
  pub near : to ≤ 2 ^ 127
  pub walk : IsNet net → GuardWalk net t leaves first guards i to

pub loop_begins : (net : FlatNet) (t : NameTable) (leaves : List Place) (first : ℕ) (guards : List (List (Option Guard))) → first ≤ 2 ^ 127
    → length guards ≡ length net.arrays → GuardLoop net t leaves first guards 0 first
loop_begins net t leaves first guards near long = record { near = near; walk = λ whole. walk_begins net whole t leaves first guards long }

pub loop_goes_on : (net : FlatNet) (t : NameTable) (leaves : List Place) (first : ℕ) (guards new : List (List (Option Guard))) (i from to k : ℕ)
    → i < length net.array_order → k ≡ get_or net.array_order i k → to ≤ 2 ^ 127
    → (k < length net.arrays → length guards ≡ length net.arrays → IsArrayPassed net t leaves k from guards new to)
    → GuardLoop net t leaves first guards i from → GuardLoop net t leaves first new (i + 1) to
loop_goes_on net t leaves first guards new i from to k less is near passed before = record {
  near = near;
  walk = λ whole.
      let walk = before.walk whole in
      let at = slice_get_read net.array_order (length net.array_order) i k refl less is in
      let a = whole.array_state.only i k at in
      walk_step net whole t leaves first guards new i from to k less is (passed (slice_get_within net.arrays k a.0 a.1) walk.room) walk;
}

pub loop_ends : (net : FlatNet) (t : NameTable) (leaves : List Place) (first : ℕ) (guards : List (List (Option Guard))) (i to : ℕ)
    → i ≡ length net.array_order → GuardLoop net t leaves first guards i to → IsNet net → AreGuards net t leaves first guards
loop_ends net t leaves first guards i to end before whole = walk_ends net whole t leaves first guards i to end before.near (before.walk whole)

-- the guards of the first writes of an array
pub guards_begin : (net : FlatNet) (t : NameTable) (leaves : List Place) (words : ℕ) (from : ℕ) → from ≤ 2 ^ 127 → AreArrayGuards net t leaves words [] from [] from
guards_begin net t leaves words from near = record { count = refl; each = λ j w e. absurd (cc); named = refl; near = near; spelled = tt }

pub guards_more : (net : FlatNet) (t : NameTable) (leaves : List Place) (words from next to : ℕ) (ws : List ArrayWrite) (w : ArrayWrite) (gs : List (Option Guard))
    (g : Option Guard) → next ≤ 2 ^ 126
    → AreArrayGuards net t leaves words ws from gs next → IsGuardNamed t (needs_guard net leaves words w) next g to
    → AreArrayGuards net t leaves words (ws ++ w ∷ []) from (gs ++ g ∷ []) to
guards_more net t leaves words from next to ws w gs g few before named = record {
  count = let c = before.count in omega (arith, length-append gs (g ∷ []), length-append ws (w ∷ []));
  each = each;
  named = rw more (joined_to (table_names t) (flat_map guard_names gs) (guard_names g) from next to before.named named.named);
  near = let n = named.near in omega arith;
  spelled = rw more (all_joined IsName (flat_map guard_names gs) (guard_names g) before.spelled named.spelled);
}
  where
    more : flat_map guard_names (gs ++ g ∷ []) ≡ flat_map guard_names gs ++ guard_names g
    more = flat_map-append guard_names gs (g ∷ []) ∙ ap (λ (l : List (List ℕ)). flat_map guard_names gs ++ l) (append-nil (guard_names g))

    at_end : (xs : List (Option Guard)) (x : Option Guard) (n : ℕ) → n ≡ length xs → unwrap_or (slice_get (xs ++ x ∷ []) n) None ≡ x
    at_end xs x n e = rw e (ap (λ (o : Option (Option Guard)). unwrap_or o None) (get_behind xs [] x))

    each : (j : ℕ) (v : ArrayWrite) → slice_get (ws ++ w ∷ []) j ≡ Some v
        → is_some (unwrap_or (slice_get (gs ++ g ∷ []) j) None) ≡ needs_guard net leaves words v
    each j v e =
        let count = before.count in
        ⊎_elim
        (λ (less : j < length ws).
        ap (λ (o : Option (Option Guard)). is_some (unwrap_or o None)) (get_left gs (g ∷ []) j (omega arith))
        ∙ before.each j v (sym (get_left ws (w ∷ []) j less) ∙ e))
        (λ (past : length ws ≤ j).
        let below : j < length (ws ++ w ∷ []) = slice_get_within (ws ++ w ∷ []) j v e in
        let last : j ≡ length ws = omega (arith, length-append ws (w ∷ [])) in
        let same : Some w ≡ Some v = sym (get_behind ws [] w) ∙ ap (slice_get (ws ++ w ∷ [])) (sym last) ∙ e in
        let one : w ≡ v = cc in
        ap is_some (at_end gs g j (omega arith)) ∙ named.given ∙ ap (needs_guard net leaves words) one)
        (cases_lt j (length ws))

-- the guards of the first i writes and one more
pub guards_step : (net : FlatNet) (t : NameTable) (leaves : List Place) (words from next to i : ℕ) (ws : List ArrayWrite) (w : ArrayWrite) (gs new : List (Option Guard))
    (g : Option Guard) → i < length ws → w ≡ get_or ws i w → next ≤ 2 ^ 126
    → AreArrayGuards net t leaves words (take i ws) from gs next → IsGuardNamed t (needs_guard net leaves words w) next g to → new ≡ gs ++ g ∷ []
    → AreArrayGuards net t leaves words (take (i + 1) ws) from new to
guards_step net t leaves words from next to i ws w gs new g less is few before named made =
    let more : take (i + 1) ws ≡ take i ws ++ w ∷ [] = take_more ws i w less ∙ ap (λ y. take i ws ++ y ∷ []) (sym is) in
    rw (more, made) (guards_more net t leaves words from next to (take i ws) w gs g few before named)

-- a number of a list is the same whatever stands behind its end
pub number_read : (ks : List ℕ) (i : ℕ) → i < length ks → get_or ks i 0 ≡ get_or ks i (get_or ks i 0)
number_read ks i less =
    let e = there_is ks i less in
    let first : get_or ks i 0 ≡ e.0 = sym (unwrap_or-slice_get ks i 0) ∙ ap (λ (o : Option ℕ). unwrap_or o 0) e.1 in
    let again : get_or ks i (get_or ks i 0) ≡ e.0 =
    sym (unwrap_or-slice_get ks i (get_or ks i 0)) ∙ ap (λ (o : Option ℕ). unwrap_or o (get_or ks i 0)) e.1 in
    first ∙ sym again
