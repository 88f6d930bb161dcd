-- What the ports of a memory leave at an address.
use Rattle.std.proofs.Common.{◌≡◌, ℕ, List, [], ◌∷◌, ◌++◌, Bool, true, ◌&&◌, nat_eq, if◌then◌else◌, refl, sym, ap, subst, ◌∙◌, inl, inr}
use Rattle.std.proofs.lemmas.Bool.{and_from, and_parts, eq-eqb, eqb-true, false_from_ne_true}
use Rattle.fir_meaning.specs.MemoryPorts.{MemoryPortKind, reads, reads_and_writes, writes}
use Rattle.fir_meaning.specs.LeafPaths.{LeafPath}
use Rattle.fir_meaning.specs.ClockEdges.{has_edge}
use Rattle.fir_meaning.specs.SourceAllows.{word_after, writes_at}
use Rattle.fir_meaning.specs.SourceRoles.{NamedPort, PathWriting, port_writing, writings_at}
use Rattle.fir_meaning.specs.SourceValues.{PathEnv}
use Rattle.fir_source_laws.specs.working.MemoryLeaves.{Memory}
use Rattle.fir_source_laws.specs.working.MemoryPorts.{MayWrite, NoneWrites, Writes, address_of, clock_on, data_of, enable, mask_of, mode}
use Rattle.fir_source_laws.proofs.Edges.{edge_from, with_edge}

module _ (m : Memory) (state edges : List ℕ) (env : PathEnv) (q : LeafPath) (address : ℕ) where
  -- these writes, where a word was
  abbrev pub after : List PathWriting → ℕ → ℕ
  after ws word = word_after m.design state edges env m.at ws address word

  after_both : (ws vs : List PathWriting) (word : ℕ) → after (ws ++ vs) word ≡ after vs (after ws word)
  after_both [] vs word = refl
  after_both (w ∷ ws) vs word = after_both ws vs (if writes_at m.design state edges env m.at w address then env.numbers (m.at ++ w.given) else word)

  abbrev pub by_port : NamedPort → ℕ → ℕ
  by_port port word = after (port_writing m.named.name q port.name port.kind) word

  abbrev pub by_ports : List NamedPort → ℕ → ℕ
  by_ports ports word = after (writings_at m.named.name q ports) word

  by_first : (port : NamedPort) (others : List NamedPort) (word : ℕ) → by_ports (port ∷ others) word ≡ by_ports others (by_port port word)
  by_first port others word = after_both (port_writing m.named.name q port.name port.kind) (writings_at m.named.name q others) word

  pub by_both : (xs ys : List NamedPort) (word : ℕ) → by_ports (xs ++ ys) word ≡ by_ports ys (by_ports xs word)
  by_both [] ys word = refl
  by_both (x ∷ xs) ys word =
      by_first x (xs ++ ys) word ∙ by_both xs ys (by_port x word) ∙ ap (λ (v : ℕ). by_ports ys v) (sym (by_first x xs word))

  module _ (port : NamedPort) where
    -- the tests of a port
    abbrev clocked : Bool
    clocked = has_edge edges (clock_on m env port.name)

    abbrev enabled : Bool
    enabled = nat_eq (enable m env port) 1

    abbrev addressed : Bool
    addressed = nat_eq (address_of m env port) address

    abbrev unmasked : MemoryPortKind → Bool
    unmasked k = nat_eq (mask_of m env k port.name q) 1

    abbrev may : Bool
    may = nat_eq (mode m env port) 1

    pub port_writes : (word : ℕ) → Writes m env edges q port address → by_port port word ≡ data_of m env port.kind port.name q
    port_writes word w = go port.kind (w.allowed) (w.unmasked)
      where
        edge : clocked ≡ true
        edge = with_edge edges (clock_on m env port.name) w.edge

        go : (k : MemoryPortKind) → MayWrite m env k (mode m env port) → mask_of m env k port.name q ≡ 1
            → after (port_writing m.named.name q port.name k) word ≡ data_of m env k port.name q
        go reads allowed mask = absurd allowed
        go writes allowed mask =
            let met : (enabled && (unmasked writes && true)) ≡ true =
            and_from enabled (unmasked writes && true) (eq-eqb (enable m env port) 1 w.enabled)
            (and_from (unmasked writes) true (eq-eqb (mask_of m env writes port.name q) 1 mask) refl) in
            let all : ((clocked && (enabled && (unmasked writes && true))) && addressed) ≡ true =
            and_from (clocked && (enabled && (unmasked writes && true))) addressed (and_from clocked (enabled && (unmasked writes && true)) edge met)
            (eq-eqb (address_of m env port) address w.addressed) in
            ap (λ (b : Bool). if b then data_of m env writes port.name q else word) all
        go reads_and_writes allowed mask =
            let rest : (may && (unmasked reads_and_writes && true)) ≡ true =
            and_from may (unmasked reads_and_writes && true) (eq-eqb (mode m env port) 1 allowed)
            (and_from (unmasked reads_and_writes) true (eq-eqb (mask_of m env reads_and_writes port.name q) 1 mask) refl) in
            let met : (enabled && (may && (unmasked reads_and_writes && true))) ≡ true =
            and_from enabled (may && (unmasked reads_and_writes && true)) (eq-eqb (enable m env port) 1 w.enabled) rest in
            let all : ((clocked && (enabled && (may && (unmasked reads_and_writes && true)))) && addressed) ≡ true =
            and_from (clocked && (enabled && (may && (unmasked reads_and_writes && true)))) addressed
            (and_from clocked (enabled && (may && (unmasked reads_and_writes && true))) edge met)
            (eq-eqb (address_of m env port) address w.addressed) in
            ap (λ (b : Bool). if b then data_of m env reads_and_writes port.name q else word) all

    pub port_idle : (word : ℕ) → (Writes m env edges q port address → ⊥) → by_port port word ≡ word
    port_idle word none = go port.kind refl
      where
        with_all : (k : MemoryPortKind) → port.kind ≡ k → clocked ≡ true → enabled ≡ true → MayWrite m env k (mode m env port) → unmasked k ≡ true
            → addressed ≡ true → ⊥
        with_all k e edge on allowed mask at =
            none (record {
              edge = edge_from edges (clock_on m env port.name) edge;
              enabled = eqb-true (enable m env port) 1 on;
              allowed = subst (λ x. MayWrite m env x (mode m env port)) (sym e) allowed;
              unmasked = subst (λ x. mask_of m env x port.name q ≡ 1) (sym e) (eqb-true (mask_of m env k port.name q) 1 mask);
              addressed = eqb-true (address_of m env port) address at;
            })

        go : (k : MemoryPortKind) → port.kind ≡ k → after (port_writing m.named.name q port.name k) word ≡ word
        go reads e = refl
        go writes e =
            ap (λ (b : Bool). if b then data_of m env writes port.name q else word)
            (false_from_ne_true ((clocked && (enabled && (unmasked writes && true))) && addressed)
            (λ all.
            let a = and_parts (clocked && (enabled && (unmasked writes && true))) addressed all in
            let b = and_parts clocked (enabled && (unmasked writes && true)) a.0 in
            let c = and_parts enabled (unmasked writes && true) b.1 in
            let d = and_parts (unmasked writes) true c.1 in
            with_all writes e b.0 c.0 tt d.0 a.1))
        go reads_and_writes e =
            ap (λ (b : Bool). if b then data_of m env reads_and_writes port.name q else word)
            (false_from_ne_true ((clocked && (enabled && (may && (unmasked reads_and_writes && true)))) && addressed)
            (λ all.
            let a = and_parts (clocked && (enabled && (may && (unmasked reads_and_writes && true)))) addressed all in
            let b = and_parts clocked (enabled && (may && (unmasked reads_and_writes && true))) a.0 in
            let c = and_parts enabled (may && (unmasked reads_and_writes && true)) b.1 in
            let d = and_parts may (unmasked reads_and_writes && true) c.1 in
            let f = and_parts (unmasked reads_and_writes) true d.1 in
            with_all reads_and_writes e b.0 c.0 (eqb-true (mode m env port) 1 d.0) f.0 a.1))

  pub by_none : (ports : List NamedPort) (word : ℕ) → NoneWrites m env edges q ports address → by_ports ports word ≡ word
  by_none [] word none = refl
  by_none (p ∷ ports) word none =
      by_first p ports word ∙ by_none ports (by_port p word) (λ o among. none o (inr among)) ∙ port_idle p word (none p (inl refl))

  -- the last that writes
  pub by_last : (before later : List NamedPort) (port : NamedPort) (word : ℕ) → Writes m env edges q port address
      → NoneWrites m env edges q later address → by_ports (before ++ port ∷ later) word ≡ data_of m env port.kind port.name q
  by_last before later port word w none =
      by_both before (port ∷ later) word ∙ by_first port later (by_ports before word) ∙ by_none later (by_port port (by_ports before word)) none
      ∙ port_writes port (by_ports before word) w
