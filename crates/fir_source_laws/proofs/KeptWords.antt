-- The laws of what is kept from tick to tick.
use Rattle.std.proofs.Common.{◌≡◌, ℕ, ◌<◌, List, [], ◌∷◌, true, Option, refl, ap, ◌∙◌, inl, inr}
use Rattle.fir_base.specs.Lists.{In}
use Rattle.fir_ast.specs.Expressions.{Expression}
use Rattle.fir_meaning.specs.LeafPaths.{LeafPath}
use Rattle.fir_meaning.specs.SourceAllows.{next}
use Rattle.fir_meaning.specs.SourceCircuits.{PlacedArray, PlacedLeaf, array_path, leaf_path}
use Rattle.fir_meaning.specs.SourceDesigns.{SourceDesign}
use Rattle.fir_meaning.specs.SourceRoles.{SourceReset}
use Rattle.fir_meaning.specs.SourceValues.{PathEnv, word_before, word_of}
use Rattle.fir_meaning.specs.TypedScopes.{TypedScope}
use Rattle.fir_source_laws.specs.working.MemoryLeaves.{HasDepth, IsArray, Memory, ports}
use Rattle.fir_source_laws.specs.working.MemoryPorts.{NoneWrites}
use Rattle.fir_source_laws.specs.working.RegisterLaws.{IsClocked, IsRegister, IsReset}
use Rattle.fir_source_laws.specs.working.RunLaws.{HoldsUntilEdge, IsReadUntilWrittenAgain, ReadsATickLater, Valued, state_behind}
use Rattle.fir_source_laws.proofs.HeldWords.{keeps}
use Rattle.fir_source_laws.proofs.ReadValues.{pipe_the_old_word, show_pipe, show_word}
use Rattle.fir_source_laws.proofs.ShownRegisters.{shows_word}
use Rattle.fir_source_laws.proofs.WrittenWords.{stay_unwritten, take_the_last_write}

stays_unwritten : (m : Memory) (depth : ℕ) (q : LeafPath) (a : PlacedArray) (address : ℕ) → HasDepth m depth → IsArray m q a → address < depth
    → (state : List ℕ) (ticks : List Valued) → ((v : Valued) → In ticks v → NoneWrites m v.env v.edges q (ports m) address)
    → word_before m.design (state_behind m.design state ticks) (array_path a) address ≡ word_before m.design state (array_path a) address
stays_unwritten m depth q a address e h lt state [] none = refl
stays_unwritten m depth q a address e h lt state (v ∷ vs) none =
    stays_unwritten m depth q a address e h lt (next m.design state v.edges v.env) vs (λ w among. none w (inr among))
    ∙ stay_unwritten m state v.edges v.env depth q a address e h lt (none v (inl refl))

pub is_read_until_written_again : IsReadUntilWrittenAgain
is_read_until_written_again m depth q a address e h lt state first before later writer are w none between quiet tick env s reader p late read r at =
    let reached = state_behind m.design state (first ∷ between) in
    let written = take_the_last_write m state first.edges first.env depth q a address before later writer e h lt are w none in
    let kept = stays_unwritten m depth q a address e h lt (next m.design state first.edges first.env) between quiet in
    show_word m depth reader q a p reached tick env e late h read s r
    ∙ ap (word_before m.design reached (array_path a)) at
    ∙ kept
    ∙ written

pub reads_a_tick_later : ReadsATickLater
reads_a_tick_later m depth q a port p e old h_array h state first edge r tick env s =
    show_pipe m depth port q a p (next m.design state first.edges first.env) tick env h s
    ∙ pipe_the_old_word m depth port q a p state first.edges first.env e old h_array h edge r

held : (t : SourceDesign) (p : PlacedLeaf) (scope : TypedScope) (clock : Expression) (q : LeafPath) (reset : Option SourceReset)
    → IsRegister t p scope clock reset q → (env : PathEnv) (state : List ℕ) (ticks : List Valued)
    → ((v : Valued) → In ticks v → (IsClocked t p scope clock q v.edges v.env → ⊥) × (IsReset t v.env p.at reset true → ⊥))
    → word_of t env (state_behind t state ticks) (leaf_path p) ≡ word_of t env state (leaf_path p)
held t p scope clock q reset h env state [] none = refl
held t p scope clock q reset h env state (v ∷ vs) none =
    let now = none v (inl refl) in
    held t p scope clock q reset h env (next t state v.edges v.env) vs (λ w among. none w (inr among))
    ∙ keeps t p scope clock q state v.edges v.env reset h now.0 now.1

pub hold_until_edge : HoldsUntilEdge
hold_until_edge t p scope clock q reset h state ticks none tick env s free =
    shows_word t p scope clock q (state_behind t state ticks) tick env reset h s free ∙ held t p scope clock q reset h env state ticks none
