-- What a port of a memory reads.
use Rattle.std.proofs.Common.{◌≡◌, ℕ, ◌<◌, ◌∷◌, ◌++◌, Bool, true, ◌&&◌, nat_eq, nat_lt, if◌then◌else◌, refl, ap, ◌∙◌, inl, inr, arith}
use Rattle.std.proofs.lemmas.Bool.{and_from, and_parts, eq-eqb, eqb-true, false_from_ne_true, lt-ltb, ltb-true}
use Rattle.fir_meaning.specs.MemoryPorts.{MemoryPortKind, reads, reads_and_writes, writes}
use Rattle.fir_meaning.specs.LeafPaths.{LeafPath, named}
use Rattle.fir_meaning.specs.SourceCircuits.{PlacedArray, all_arrays}
use Rattle.fir_meaning.specs.SourceRoles.{NamedPort}
use Rattle.fir_meaning.specs.SourceValues.{PathEnv, are_met, read_word, words_on}
use Rattle.fir_source_laws.specs.working.MemoryLeaves.{HasDepth, IsArray, Memory}
use Rattle.fir_source_laws.specs.working.MemoryPorts.{MayRead, Reads, ReadsNothing, address_of, enable, mode}
use Rattle.fir_source_laws.proofs.ArrayRounds.{words_found}
use Rattle.fir_source_laws.proofs.DeclaredArrays.{array_path_is, depth_is}
use Rattle.fir_source_laws.proofs.ReadRoles.{needs_of, reading_of}

module _ (m : Memory) (env : PathEnv) (depth : ℕ) (port : NamedPort) (q : LeafPath) (a : PlacedArray) (e : HasDepth m depth) (h : IsArray m q a) where
  words_are : words_on (all_arrays m.design) (m.at ++ named m.named.name ∷ q) ≡ depth
  words_are = ap (words_on (all_arrays m.design)) (array_path_is m q a h) ∙ words_found (all_arrays m.design) a h.among h.once ∙ depth_is m q a h depth e

  abbrev words : ℕ
  words = words_on (all_arrays m.design) (m.at ++ named m.named.name ∷ q)

  abbrev enabled : Bool
  enabled = nat_eq (enable m env port) 1

  abbrev within : Bool
  within = nat_lt (address_of m env port) words

  abbrev allowed : MemoryPortKind → Bool
  allowed kind = are_met m.design env m.at (needs_of m port.name kind)

  allowed_is : (kind : MemoryPortKind) → MayRead m env kind (mode m env port) → allowed kind ≡ true
  allowed_is reads may = refl
  allowed_is writes may = refl
  allowed_is reads_and_writes may = and_from (nat_eq (mode m env port) 0) true (eq-eqb (mode m env port) 0 may) refl

  pub reads_word : (word : ℕ → ℕ) → Reads m env depth port → read_word m.design env m.at (reading_of m port q) word ≡ word (address_of m env port)
  reads_word word r =
      let lt : address_of m env port < words = rw words_are r.within in
      let all : ((enabled && allowed port.kind) && within) ≡ true =
      and_from (enabled && allowed port.kind) within
      (and_from enabled (allowed port.kind) (eq-eqb (enable m env port) 1 r.enabled) (allowed_is port.kind r.allowed))
      (lt-ltb (address_of m env port) words lt) in
      ap (λ (b : Bool). if b then word (address_of m env port) else 0) all

  mode_is : (kind : MemoryPortKind) → kind ≡ reads_and_writes → allowed kind ≡ true → mode m env port ≡ 0
  mode_is reads is met = cc
  mode_is writes is met = cc
  mode_is reads_and_writes is met = eqb-true (mode m env port) 0 (and_parts (nat_eq (mode m env port) 0) true met).0

  none_read : (enabled ≡ true) → (allowed port.kind ≡ true) → (within ≡ true) → ReadsNothing m env depth port → ⊥
  none_read on met near (inl off) = let one : enable m env port ≡ 1 = eqb-true (enable m env port) 1 on in absurd (omega (arith, off, one))
  none_read on met near (inr (inl w)) = let zero_mode : mode m env port ≡ 0 = mode_is port.kind w.0 met in absurd (omega (arith, w.1, zero_mode))
  none_read on met near (inr (inr past)) =
      let lt : address_of m env port < words = ltb-true (address_of m env port) words near in
      absurd (omega (arith, lt, past, words_are))

  pub reads_zero : (word : ℕ → ℕ) → ReadsNothing m env depth port → read_word m.design env m.at (reading_of m port q) word ≡ 0
  reads_zero word nothing =
      ap (λ (b : Bool). if b then word (address_of m env port) else 0)
      (false_from_ne_true ((enabled && allowed port.kind) && within)
      (λ all.
      let x = and_parts (enabled && allowed port.kind) within all in
      let y = and_parts enabled (allowed port.kind) x.0 in
      none_read y.0 y.1 x.1 nothing))
