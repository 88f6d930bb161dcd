-- The laws of what is read of memories.
use Rattle.std.proofs.Common.{◌≡◌, ℕ, ◌<◌, List, ◌∷◌, ◌++◌, Bool, if◌then◌else◌, Some, unwrap_or, refl, sym, ap, ap₂, ◌∙◌, inl, inr}
use Rattle.fir_base.specs.Ticks.{Tick}
use Rattle.fir_ast.specs.declared.statements.ReadUnderWrite.{ReadUnderWrite}
use Rattle.fir_ast.specs.declared.statements.ReadUnderWrite.TheVariants.{New, Old, Undefined}
use Rattle.fir_meaning.specs.LeafPaths.{LeafPath, named}
use Rattle.fir_meaning.specs.MemoryTypes.{first_one}
use Rattle.fir_meaning.specs.SourceAllows.{Settled, piped, word_next, word_written}
use Rattle.fir_meaning.specs.SourceCircuits.{PlacedArray, PlacedLeaf, array_path, leaf_path}
use Rattle.fir_meaning.specs.SourceRoles.{NamedPort, SourceRole, under_write_of}
use Rattle.fir_meaning.specs.SourceValues.{PathEnv, number_shown, read_before, word_before, word_of}
use Rattle.fir_source_laws.specs.working.MemoryLeaves.{HasDepth, HasLatency, IsArray, IsPipe, IsRead, Memory}
use Rattle.fir_source_laws.specs.working.MemoryPorts.{Reads, ReadsNothing, address_of, clock_on}
use Rattle.fir_source_laws.specs.working.ReadLaws.{PipeKeeps, PipesTheNewWord, PipesTheOldWord, PipesZero, ReadsOld, ShowsPipe, ShowsWord, ShowsZero}
use Rattle.fir_source_laws.specs.working.StateWords.{HasEdge, word_behind_tick}
use Rattle.fir_source_laws.proofs.ArrayRounds.{next_written}
use Rattle.fir_source_laws.proofs.DeclaredArrays.{array_path_is, depth_is}
use Rattle.fir_source_laws.proofs.Edges.{with_edge, without_edge}
use Rattle.fir_source_laws.proofs.ReadRoles.{reading_of, role_at, role_late}
use Rattle.fir_source_laws.proofs.ReadWords.{reads_word, reads_zero}
use Rattle.fir_source_laws.proofs.ShownRegisters.{has_number}
use Rattle.fir_source_laws.proofs.WordsBehind.{next_word}

module _ (m : Memory) (depth : ℕ) (port : NamedPort) (q : LeafPath) (a : PlacedArray) (p : PlacedLeaf) where
  module _ (state : List ℕ) (tick : Tick) (env : PathEnv) where
    shown_by : (latency : ℕ) (v : ℕ) → HasLatency m latency → IsRead m port q p → Settled m.design state tick env
        → number_shown m.design env state tick.inputs m.at (leaf_path p) (role_at m port q latency) ≡ Some v → env.numbers (leaf_path p) ≡ v
    shown_by latency v late h s e =
        let same : number_shown m.design env state tick.inputs p.at (leaf_path p) p.leaf.role ≡ Some v =
        ap₂ (λ (at : LeafPath) (r : SourceRole). number_shown m.design env state tick.inputs at (leaf_path p) r) h.placed (role_late m port q p latency h late)
        ∙ e in
        let both : Some (env.numbers (leaf_path p)) ≡ Some v = sym (has_number m.design state tick env p h.width s h.among h.holds) ∙ same in
        cc

    pub show_word : ShowsWord m depth port q a p state tick env
    show_word e late h_array h s r =
        shown_by 0 (word_before m.design state (array_path a) (address_of m env port)) late h s
        (ap Some (reads_word m env depth port q a e h_array (word_before m.design state (m.at ++ named m.named.name ∷ q)) r
        ∙ ap (λ (x : LeafPath). word_before m.design state x (address_of m env port)) (array_path_is m q a h_array)))

    pub show_zero : ShowsZero m depth port q a p state tick env
    show_zero e late h_array h s r =
        shown_by 0 0 late h s (ap Some (reads_zero m env depth port q a e h_array (word_before m.design state (m.at ++ named m.named.name ∷ q)) r))

    pub show_pipe : ShowsPipe m depth port q a p state tick env
    show_pipe h s = shown_by 1 (word_of m.design env state (leaf_path p)) h.latency h.read s refl

  module _ (state edges : List ℕ) (env : PathEnv) where
    pipe_next : IsPipe m port q p
        → word_behind_tick m.design state edges env (leaf_path p)
        ≡ word_next m.design state edges env m.at (leaf_path p) (role_at m port q 1)
    pipe_next h =
        next_word m.design state edges env p h.among_words h.once
        ∙ ap₂ (λ (at : LeafPath) (r : SourceRole). word_next m.design state edges env at (leaf_path p) r) h.read.placed
        (role_late m port q p 1 h.read h.latency)

    abbrev by_edge : Bool → ℕ
    by_edge edge = if edge then piped m.design state edges env m.at (reading_of m port q) (under_write_of m.parts) else word_of m.design env state (leaf_path p)

    at_edge : IsPipe m port q p → HasEdge edges (clock_on m env port.name)
        → word_behind_tick m.design state edges env (leaf_path p) ≡ piped m.design state edges env m.at (reading_of m port q) (under_write_of m.parts)
    at_edge h edge = pipe_next h ∙ ap by_edge (with_edge edges (clock_on m env port.name) edge)

    pub keep_piped : PipeKeeps m depth port q a p state edges env
    keep_piped h none = pipe_next h ∙ ap by_edge (without_edge edges (clock_on m env port.name) none)

    zero_piped : (under : ReadUnderWrite) → HasDepth m depth → IsArray m q a → ReadsNothing m env depth port
        → piped m.design state edges env m.at (reading_of m port q) under ≡ 0
    zero_piped New e h r = reads_zero m env depth port q a e h (word_written m.design state edges env (m.at ++ named m.named.name ∷ q)) r
    zero_piped Old e h r = reads_zero m env depth port q a e h (word_before m.design state (m.at ++ named m.named.name ∷ q)) r
    zero_piped Undefined e h r = reads_zero m env depth port q a e h (word_before m.design state (m.at ++ named m.named.name ∷ q)) r

    pub pipe_zero : PipesZero m depth port q a p state edges env
    pipe_zero e h_array h edge r = at_edge h edge ∙ zero_piped (under_write_of m.parts) e h_array r

    old_piped : HasDepth m depth → IsArray m q a → Reads m env depth port
        → read_before m.design env state m.at (reading_of m port q) ≡ word_before m.design state (array_path a) (address_of m env port)
    old_piped e h r =
        reads_word m env depth port q a e h (word_before m.design state (m.at ++ named m.named.name ∷ q)) r
        ∙ ap (λ (x : LeafPath). word_before m.design state x (address_of m env port)) (array_path_is m q a h)

    is_old : ReadsOld m
        → piped m.design state edges env m.at (reading_of m port q) (under_write_of m.parts) ≡ read_before m.design env state m.at (reading_of m port q)
    is_old (inl e) = ap (λ (us : List ReadUnderWrite). piped m.design state edges env m.at (reading_of m port q) (unwrap_or (first_one us) Old)) e
    is_old (inr (inl e)) = ap (λ (us : List ReadUnderWrite). piped m.design state edges env m.at (reading_of m port q) (unwrap_or (first_one us) Old)) e
    is_old (inr (inr e)) = ap (λ (us : List ReadUnderWrite). piped m.design state edges env m.at (reading_of m port q) (unwrap_or (first_one us) Old)) e

    pub pipe_the_old_word : PipesTheOldWord m depth port q a p state edges env
    pipe_the_old_word e old h_array h edge r = at_edge h edge ∙ is_old old ∙ old_piped e h_array r

    pub pipe_the_new_word : PipesTheNewWord m depth port q a p state edges env
    pipe_the_new_word e new h_array h edge r =
        let inside : address_of m env port < a.array.words = rw (depth_is m q a h_array depth e) r.within in
        at_edge h edge
        ∙ ap (λ (us : List ReadUnderWrite). piped m.design state edges env m.at (reading_of m port q) (unwrap_or (first_one us) Old)) new
        ∙ reads_word m env depth port q a e h_array (word_written m.design state edges env (m.at ++ named m.named.name ∷ q)) r
        ∙ ap (λ (x : LeafPath). word_written m.design state edges env x (address_of m env port)) (array_path_is m q a h_array)
        ∙ sym (next_written m.design state edges env a (address_of m env port) h_array.among_stored h_array.once_stored inside)
