-- Every order of an edge leaves the same words: those after all writes in text order.
use Rattle.std.proofs.Common.{◌≡◌, ℕ, List, [], ◌∷◌, ◌++◌, cond, true, false, Bool, refl, sym, ap, ◌∙◌, subst, append_assoc, append-nil}
use Rattle.std.specs.Prelude.{map, Some, None}
use Rattle.std.specs.List.{list_all}
use Rattle.fir_base.specs.Ticks.{Env, Tick}
use Rattle.ver_ast.specs.declared.tree.Verilog.{Verilog}
use Rattle.ver_ast.specs.Nets.{nets, variables, AlwaysBlock, blocks}
use Rattle.ver_ast.specs.Valid.{Valid}
use Rattle.ver_ast.specs.Stores.{Store, store_of, state_of}
use Rattle.ver_ast.specs.Settled.{Rest}
use Rattle.ver_ast.specs.Next.{Put, puts, put_all, acts, acting, all_puts, is_within, state_after, v_next}
use Rattle.ver_ast.proofs.Chosen.{chosen}
use Rattle.ver_order.specs.working.Arranged.{IsRearranged, IsInterleaved}
use Rattle.ver_order.specs.working.Edges.{EdgeEvent, stepping, sampling, writing, EdgeState, after_event, after_events, sampled_blocks, writes_made, IsEdgeOrder, state_after_events}
use Rattle.ver_order.proofs.StepsAtRest.{step_keeps_rest}
use Rattle.ver_order.proofs.InTurn.{joined_parts, in_turn, unmoved, rearranged_parts}
use Rattle.ver_order.proofs.WritesByName.{writes_to, same_writes}
use Rattle.ver_order.proofs.OneWriter.{AtMostOne, side_by_side, rearranged}
use Rattle.ver_order.proofs.BlockWrites.{targets_once, one_writer, named}

all_samples : (bs : List AlwaysBlock) → sampled_blocks (map sampling bs) ≡ bs
all_samples [] = refl
all_samples (b ∷ bs) = ap (λ cs. b ∷ cs) (all_samples bs)

all_writes : (ps : List Put) → writes_made (map writing ps) ≡ ps
all_writes [] = refl
all_writes (p ∷ ps) = ap (λ qs. p ∷ qs) (all_writes ps)

no_writes : (bs : List AlwaysBlock) → writes_made (map sampling bs) ≡ []
no_writes [] = refl
no_writes (b ∷ bs) = no_writes bs

no_samples : (ps : List Put) → sampled_blocks (map writing ps) ≡ []
no_samples [] = refl
no_samples (p ∷ ps) = no_samples ps

module _ (v : Verilog) (valid : Valid v) (state : List ℕ) (tick : Tick) (env : Env) (rest : Rest v state tick env) where
  abbrev words : Store
  words = store_of (variables v) state

  abbrev still : List (List Put) → EdgeState
  still ps = record { env = env; store = words; sampled = ps }

  -- before the first write values and words stay as they are
  while_sampling : (ms : List EdgeEvent) → writes_made ms ≡ [] → (ps : List (List Put)) → after_events v ms (still ps) ≡ still (ps ++ map (puts (nets v) env) (sampled_blocks ms))
  while_sampling [] empty ps = ap still (sym (append-nil ps))
  while_sampling (stepping k ∷ ms) empty ps =
      ap (λ (f : Env). after_events v ms (record { env = f; store = words; sampled = ps })) (step_keeps_rest v state tick env rest k) ∙ while_sampling ms empty ps
  while_sampling (sampling b ∷ ms) empty ps =
      while_sampling ms empty (ps ++ puts (nets v) env b ∷ []) ∙ ap still (append_assoc ps (puts (nets v) env b ∷ []) (map (puts (nets v) env) (sampled_blocks ms)))
  while_sampling (writing p ∷ ms) empty ps = absurd (cc)

  -- the words are those after the writes
  while_writing : (ms : List EdgeEvent) → sampled_blocks ms ≡ [] → (w : EdgeState) → (after_events v ms w).store ≡ put_all (writes_made ms) w.store
  while_writing [] empty w = refl
  while_writing (stepping k ∷ ms) empty w = while_writing ms empty (after_event v (stepping k) w)
  while_writing (sampling b ∷ ms) empty w = absurd (cc)
  while_writing (writing p ∷ ms) empty w = while_writing ms empty (after_event v (writing p) w)

  after_append : (ms ns : List EdgeEvent) (w : EdgeState) → after_events v (ms ++ ns) w ≡ after_events v ns (after_events v ms w)
  after_append [] ns w = refl
  after_append (m ∷ ms) ns w = after_append ms ns (after_event v m w)

  module _ (first second : List EdgeEvent) (edge : IsEdgeOrder v state tick env first second) where
    sampled : after_events v first (still []) ≡ still (map (puts (nets v) env) (sampled_blocks first))
    sampled = while_sampling first edge.no_writes []

    same_at : (n : List ℕ) → writes_to n (writes_made second) ≡ writes_to n (all_puts v tick env)
    same_at n =
        let read : AtMostOne n (map (puts (nets v) env) (acting v tick env)) =
        one_writer (puts (nets v) env) n (acting v tick env) (targets_once (acts tick.clocks env) (blocks v) valid.written_once)
        (λ b m. named v env b (valid.sound_blocks b (chosen (acts tick.clocks env) (blocks v) b m).0)) in
        let order = rearranged n (map (puts (nets v) env) (sampled_blocks first)) (map (puts (nets v) env) (acting v tick env))
        (rearranged_parts (puts (nets v) env) (sampled_blocks first) (acting v tick env) edge.each_block) read in
        side_by_side n (writes_made second) (map (puts (nets v) env) (sampled_blocks first))
        (subst (λ (s : EdgeState). IsInterleaved (writes_made second) s.sampled) sampled edge.each_write) order.0
        ∙ order.1 ∙ ap (writes_to n) (joined_parts (puts (nets v) env) (acting v tick env))

    store_is : (after_events v (first ++ second) (still [])).store ≡ put_all (all_puts v tick env) words
    store_is =
        ap (λ (w : EdgeState). w.store) (after_append first second (still []))
        ∙ ap (λ (w : EdgeState). (after_events v second w).store) sampled
        ∙ while_writing second edge.no_samples (still (map (puts (nets v) env) (sampled_blocks first)))
        ∙ same_writes (writes_made second) (all_puts v tick env) words same_at

    pub one_state : state_after_events v state env (first ++ second) ≡ state_after v state (all_puts v tick env)
    one_state = ap (state_of (variables v)) store_is

  -- one order: all samples, then all writes, in text order
  pub in_text_order : IsEdgeOrder v state tick env (map sampling (acting v tick env)) (map writing (all_puts v tick env))
  in_text_order = record {
    no_writes = no_writes (acting v tick env);
    no_samples = no_samples (all_puts v tick env);
    each_block = subst (λ bs. IsRearranged bs (acting v tick env)) (sym (all_samples (acting v tick env))) (unmoved (acting v tick env));
    each_write =
        subst (λ (s : EdgeState). IsInterleaved (writes_made (map writing (all_puts v tick env))) s.sampled)
        (sym (while_sampling (map sampling (acting v tick env)) (no_writes (acting v tick env)) []))
        (rw (all_samples (acting v tick env), all_writes (all_puts v tick env), ← joined_parts (puts (nets v) env) (acting v tick env))
        (in_turn (map (puts (nets v) env) (acting v tick env))));
  }

some_is : (b : Bool) (x y : List ℕ) → cond b (Some x) None ≡ Some y → x ≡ y
some_is true x y e = cc
some_is false x y e = absurd (cc)

pub is_next : (v : Verilog) (state : List ℕ) (tick : Tick) (env : Env) (next : List ℕ) → v_next v state tick env ≡ Some next
    → state_after v state (all_puts v tick env) ≡ next
is_next v state tick env next e =
    some_is (list_all (is_within (store_of (variables v) state)) (all_puts v tick env)) (state_after v state (all_puts v tick env)) next e
