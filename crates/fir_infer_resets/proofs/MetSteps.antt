-- What meets is joined bit by bit.
use Rattle.std.proofs.Common.{◌≡◌, ℕ, List, [], ◌++◌, flat_map, Result, Ok, Err, OnOk, refl, ⊎_elim, sym, ap, ◌∙◌, subst, append_assoc}
use Rattle.std.proofs.lemmas.Grind.{flat_map-append}
use Rattle.std.proofs.lemmas.List.{append-nil}
use Rattle.fir_base.specs.Lists.{In}
use Rattle.fir_base.proofs.Members.{in_left, in_right, in_either}
use Rattle.fir_ast.specs.Circuits.{CircuitTree}
use Rattle.fir_infer_resets.specs.declared.joined.Joined.{Joined as JoinedOfCode}
use Rattle.fir_infer_resets.specs.declared.root.Root.{Root}
use Rattle.fir_meaning.specs.ResetItems.{End}
use Rattle.fir_meaning.specs.ResetJoins.{Join}
use Rattle.fir_infer_resets.specs.working.BuiltGraphs.{Stands, HasReset}
use Rattle.fir_infer_resets.specs.working.Holding.{Extends, Holds, HoldsMore}
use Rattle.fir_infer_resets.specs.working.FirstPairs.{Met}
use Rattle.fir_infer_resets.specs.working.FirstEnds.{joins_where, JoinsMet}

-- what a call says where it succeeds
pub where_ok : {A E : Type 0} → (r : Result A E) (P : Type 0) → ((x : A) → r ≡ Ok x → P) → OnOk r P
where_ok (Ok x) P h = h x refl
where_ok (Err e) P h = tt

pub at_ok : {A E : Type 0} → (r : Result A E) (P : Type 0) (x : A) → r ≡ Ok x → OnOk r P → P
at_ok r P x e h = subst (λ s. OnOk s P) e h

pub extends_same : (es : List End) → Extends es es
extends_same es = ([], sym (append-nil es))

pub extends_through : (es fs gs : List End) → Extends es fs → Extends fs gs → Extends es gs
extends_through es fs gs h i = (h.0 ++ i.0, i.1 ∙ ap (λ l. l ++ i.0) h.1 ∙ append_assoc es h.0 i.0)

module _ (c : CircuitTree) (js : List Join) (old : JoinedOfCode) (h : Holds c js old) where
  -- the same graph for other joins
  abbrev pub for_joins : (ks : List Join) → ((j : Join) → In ks j → HasReset j → Stands c h.ends old.graph.items old.kinds.items j) → Holds c ks old
  for_joins ks stand = record {
    ends = h.ends;
    are = h.are;
    same_kinds = h.same_kinds;
    built =
        record {
          is_graph = h.built.is_graph;
          long = h.built.long;
          kind = h.built.kind;
          leaves = h.built.leaves;
          once = h.built.once;
          joined = h.built.joined;
          meets = h.built.meets;
          both_ways = h.built.both_ways;
          classes = h.built.classes;
          stand = stand;
        };
    known = h.known;
    all = h.all;
    classes = h.classes;
  }

  abbrev pub same_joins : (ks : List Join) → js ≡ ks → Holds c ks old
  same_joins ks e = for_joins ks (λ j i. h.built.stand j (subst (λ l. In l j) (sym e) i))

  -- where more joins stand in it already
  pub stand_already : (more : List Join) → ((j : Join) → In more j → HasReset j → Stands c h.ends old.graph.items old.kinds.items j) → HoldsMore h more old
  stand_already more stand =
      record {
        holds =
            for_joins (js ++ more)
            (λ j i r. ⊎_elim (λ (k : In js j). h.built.stand j k r) (λ (k : In more j). stand j k r) (in_either js more j i));
        extends = extends_same h.ends;
      }

module _ (c : CircuitTree) (number : ℕ) (left right : Root) where
  pub none_met : (old : JoinedOfCode) → JoinsMet c number left right [] old old
  none_met old = record { more = λ js before may. stand_already c js old before [] (λ j i r. absurd i) }

  pub met_more : (ms ns : List Met) (a b d : JoinedOfCode) → JoinsMet c number left right ms a b → JoinsMet c number left right ns b d
      → JoinsMet c number left right (ms ++ ns) a d
  met_more ms ns a b d one other =
      record {
        more = λ js before may.
            let f = one.more js before (λ m i. may m (in_left ms ns m i)) in
            let g = other.more (js ++ flat_map (joins_where number left right) ms) f.holds (λ m i. may m (in_right ms ns m i)) in
            let e = append_assoc js (flat_map (joins_where number left right) ms) (flat_map (joins_where number left right) ns)
            ∙ ap (λ l. js ++ l) (sym (flat_map-append (joins_where number left right) ms ns)) in
            record {
              holds = same_joins c ((js ++ flat_map (joins_where number left right) ms) ++ flat_map (joins_where number left right) ns) d g.holds
                  (js ++ flat_map (joins_where number left right) (ms ++ ns)) e;
              extends = extends_through before.ends f.holds.ends g.holds.ends f.extends g.extends;
            };
      }

  pub same_met : (ms ns : List Met) (a b : JoinedOfCode) → ms ≡ ns → JoinsMet c number left right ms a b → JoinsMet c number left right ns a b
  same_met ms ns a b e h = subst (λ l. JoinsMet c number left right l a b) e h

  -- a part, and the rest
  pub part_met : (whole first rest : List Met) (a b d : JoinedOfCode) → whole ≡ first ++ rest → JoinsMet c number left right first a b
      → JoinsMet c number left right rest b d → JoinsMet c number left right whole a d
  part_met whole first rest a b d e one other = same_met (first ++ rest) whole a d (sym e) (met_more first rest a b d one other)
