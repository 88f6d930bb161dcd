-- Names while numbers take them, behind names that were taken before: none, one more, and all.
use Rattle.std.proofs.Common.{◌≡◌, ℕ, zero, suc, ◌<◌, List, [], ◌∷◌, ◌++◌, length, map, set, refl, sym, ap, ◌∙◌, inl, ⊎_elim, true, subst, append_assoc}
use Rattle.std.specs.Prelude.{Option, Some, None, unwrap_or}
use Rattle.std.specs.BTreeSet.{BTreeSet}
use Rattle.std.specs.BTreeSet as sorted
use Rattle.std.specs.Cmp.Lexicographic.{slice_cmp}
use Rattle.std.specs.Ordering.{nat_cmp}
use Rattle.std.proofs.lemmas.List.{map_push, append-nil}
use Rattle.fir_base.specs.Lists.{In, Distinct}
use Rattle.fir_base.proofs.Members.{in_left, in_right, in_either, map_same}
use Rattle.fir_base.proofs.Twins.{apart}
use Rattle.fir_base.proofs.Writes.{write_same, write_other}
use Rattle.fir_net_names.specs.Names.{AreNamed, IsNameFor}
use Rattle.fir_net_names.specs.working.LeafNamed.{somes, name_at}
use Rattle.fir_net_names.specs.working.NameSets.{Holds, TakesName, HasNames}
use Rattle.fir_net_names.proofs.HeldNames.{among_joined, among_last, holds_first, holds_same}
use Rattle.fir_net_names.proofs.NamesInTurn.{named_push}
use Rattle.fir_net_names.proofs.TableNames.{somes_more}

-- a path that takes a name
pub takes : (old new : BTreeSet (List ℕ)) (base name copy : List ℕ) → ((names : List (List ℕ)) → Holds old names → IsNameFor names base name) → copy ≡ name → sorted.Updates (slice_cmp nat_cmp) old new copy true → TakesName old new base name
takes old new base name copy free same u = record {
  named = free;
  held = λ names h. subst (λ n. Holds new (n ∷ names)) same (holds_first old new names copy u h);
}

-- one more number takes its name
module _ (base : ℕ → List ℕ) (before : List (List ℕ)) (order : List ℕ) (names : List (Option (List ℕ))) (old : BTreeSet (List ℕ)) (h : HasNames base before order names old) where
  pub same_table : (later : List (Option (List ℕ))) → ((j : ℕ) → name_at later j ≡ name_at names j) → HasNames base before order later old
  same_table later same =
      let all : map (name_at later) order ≡ map (name_at names) order = map_same (name_at later) (name_at names) order (λ j m. same j) in
      record {
        named = rw all h.named;
        has = λ k m. let r = h.has k m in (r.0, same k ∙ r.1);
        only = λ k m. same k ∙ h.only k m;
        held = rw all h.held;
      }

  module _ (k : ℕ) (name : List ℕ) (new : BTreeSet (List ℕ)) (later : List (Option (List ℕ))) (fresh : In order k → ⊥) (t : TakesName old new (base k) name) (here : name_at later k ≡ Some name) (others : (j : ℕ) → (j ≡ k → ⊥) → name_at later j ≡ name_at names j) where
    abbrev taken : List (List ℕ)
    taken = somes (map (name_at names) order)

    other : (j : ℕ) → In order j → j ≡ k → ⊥
    other j m e = fresh (subst (In order) e m)

    taken_now : somes (map (name_at later) (order ++ k ∷ [])) ≡ taken ++ name ∷ []
    taken_now =
        ap somes (map_push (name_at later) order k)
        ∙ ap (λ (ns : List (Option (List ℕ))). somes (ns ++ name_at later k ∷ [])) (map_same (name_at later) (name_at names) order (λ j m. others j (other j m)))
        ∙ ap (λ (o : Option (List ℕ)). somes (map (name_at names) order ++ o ∷ [])) here
        ∙ somes_more (map (name_at names) order) name

    named_now : AreNamed before (map base order ++ base k ∷ []) (taken ++ name ∷ [])
    named_now =
        named_push before (map base order) taken (base k) name h.named
        (λ known same. t.named known (holds_same old (before ++ taken) known (λ x. among_joined before taken x ∙ sym (same x)) h.held))

    has_now : (j : ℕ) → In (order ++ k ∷ []) j → (n : List ℕ) × (name_at later j ≡ Some n)
    has_now j m =
        ⊎_elim
        (λ (p : In order j). let r = h.has j p in (r.0, others j (other j p) ∙ r.1))
        (λ (q : In (k ∷ []) j). ⊎_elim (λ (e : k ≡ j). (name, ap (name_at later) (sym e) ∙ here)) (λ (o : ⊥). absurd o) q)
        (in_either order (k ∷ []) j m)

    only_now : (j : ℕ) → (In (order ++ k ∷ []) j → ⊥) → name_at later j ≡ None
    only_now j out = others j (λ e. out (in_right order (k ∷ []) j (inl (sym e)))) ∙ h.only j (λ m. out (in_left order (k ∷ []) j m))

    held_now : Holds new (before ++ (taken ++ name ∷ []))
    held_now =
        let last = before ++ taken in
        subst (Holds new) (append_assoc before taken (name ∷ []))
        (holds_same new (name ∷ last) (last ++ name ∷ []) (λ x. sym (among_last last name x)) (t.held last h.held))

    pub one_more : HasNames base before (order ++ k ∷ []) later new
    one_more = record {
      named = rw (map_push base order k, taken_now) named_now;
      has = has_now;
      only = only_now;
      held = rw taken_now held_now;
    }

-- some of these numbers have their names, and those that are left take theirs behind them
pub record NamedSoFar (base : ℕ → List ℕ) (before : List (List ℕ)) (all left : List ℕ) (names : List (Option (List ℕ))) (set : BTreeSet (List ℕ)) : Type 0 where
  pub order : List ℕ
  pub split : order ++ left ≡ all
  pub have : HasNames base before order names set

-- none has a name yet
pub named_none :
    (base : ℕ → List ℕ) (before : List (List ℕ)) (all : List ℕ) (names : List (Option (List ℕ))) (set : BTreeSet (List ℕ)) → Holds set before → ((j : ℕ) → name_at names j ≡ None)
    → NamedSoFar base before all all names set
named_none base before all names set held none = record {
  order = [];
  split = refl;
  have = record { named = tt; has = λ k m. absurd m; only = λ k m. none k; held = subst (Holds set) (sym (append-nil before)) held };
}

pub named_more : (base : ℕ → List ℕ) (before : List (List ℕ)) (all left : List ℕ) (k : ℕ) (names later : List (Option (List ℕ))) (old new : BTreeSet (List ℕ)) (name : List ℕ) → Distinct all → NamedSoFar base before all (k ∷ left) names old → TakesName old new (base k) name → name_at later k ≡ Some name → ((j : ℕ) → (j ≡ k → ⊥) → name_at later j ≡ name_at names j) → NamedSoFar base before all left later new
named_more base before all left k names later old new name once s t here others =
    let fresh : In s.order k → ⊥ = λ m. apart s.order (k ∷ left) (subst Distinct (sym s.split) once) k m (inl refl) in
    record {
      order = s.order ++ k ∷ [];
      split = append_assoc s.order (k ∷ []) left ∙ s.split;
      have = one_more base before s.order names old s.have k name new later fresh t here others;
    }

pub named_same : (base : ℕ → List ℕ) (before : List (List ℕ)) (all left : List ℕ) (names later : List (Option (List ℕ))) (set : BTreeSet (List ℕ)) → NamedSoFar base before all left names set → ((j : ℕ) → name_at later j ≡ name_at names j) → NamedSoFar base before all left later set
named_same base before all left names later set s same = record { order = s.order; split = s.split; have = same_table base before s.order names set s.have later same }

pub named_all : (base : ℕ → List ℕ) (before : List (List ℕ)) (all : List ℕ) (names : List (Option (List ℕ))) (set : BTreeSet (List ℕ)) → NamedSoFar base before all [] names set → HasNames base before all names set
named_all base before all names set s = subst (λ (ks : List ℕ). HasNames base before ks names set) (sym (append-nil s.order) ∙ s.split) s.have

-- others take theirs behind all these
pub named_on : (base : ℕ → List ℕ) (before : List (List ℕ)) (order left : List ℕ) (names : List (Option (List ℕ))) (set : BTreeSet (List ℕ)) → HasNames base before order names set → NamedSoFar base before (order ++ left) left names set
named_on base before order left names set h = record { order = order; split = refl; have = h }

-- a table with one more entry
pub name_before : (names : List (Option (List ℕ))) (o : Option (List ℕ)) (j : ℕ) → (j ≡ length names → ⊥) → name_at (names ++ o ∷ []) j ≡ name_at names j
name_before [] o zero n = absurd (n refl)
name_before [] o (suc j) n = refl
name_before (x ∷ names) o zero n = refl
name_before (x ∷ names) o (suc j) n = name_before names o j (λ e. n (ap suc e))

pub none_behind : (names : List (Option (List ℕ))) (j : ℕ) → name_at (names ++ None ∷ []) j ≡ name_at names j
none_behind [] zero = refl
none_behind [] (suc j) = refl
none_behind (x ∷ names) zero = refl
none_behind (x ∷ names) (suc j) = none_behind names j

-- a table with one entry written
pub name_written : (names : List (Option (List ℕ))) (k : ℕ) (name : List ℕ) → k < length names → name_at (set names k (Some name)) k ≡ Some name
name_written names k name within = ap (λ (o : Option (Option (List ℕ))). unwrap_or o None) (write_same names k (Some name) within)

pub name_other : (names : List (Option (List ℕ))) (k : ℕ) (name : List ℕ) (j : ℕ) → (j ≡ k → ⊥) → name_at (set names k (Some name)) j ≡ name_at names j
name_other names k name j n = ap (λ (o : Option (Option (List ℕ))). unwrap_or o None) (write_other names k (Some name) j n)

-- a table with no name
pub none_named : {A : Type 0} → (xs : List A) (j : ℕ) → name_at (map (λ x. None) xs) j ≡ None
none_named [] zero = refl
none_named [] (suc j) = refl
none_named (x ∷ xs) zero = refl
none_named (x ∷ xs) (suc j) = none_named xs j
