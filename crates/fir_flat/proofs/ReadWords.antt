-- What a leaf of the flat net reads of an array is what the leaf of the circuit reads of it.
use Rattle.std.proofs.Common.{◌≡◌, ℕ, ◌^◌, ◌<◌, List, [], ◌∷◌, Bool, ◌&&◌, nat_lt, if◌then◌else◌, ap, ◌∙◌, subst}
use Rattle.std.specs.List.{AllByRecursion}
use Rattle.fir_bits.specs.declared.types.NumTy.{NumTy}
use Rattle.fir_meaning.specs.LeafTypes.{number_type}
use Rattle.fir_meaning.specs.working.LeafCircuits.{LeafCircuit, type_of_leaf}
use Rattle.fir_meaning.specs.working.LeafModules.{Need, Reading}
use Rattle.fir_meaning.specs.working.LeafStates.{array_of}
use Rattle.fir_meaning.specs.working.Memories.{are_met, read_before}
use Rattle.fir_meaning.specs.working.TermValues.{Env}
use Rattle.fir_memory_types.specs.working.TypedMemories.{AreNeedsTyped}
use Rattle.fir_net.specs.declared.array.ArrayRead.{ArrayRead}
use Rattle.fir_net.specs.declared.net.FlatNet.{FlatNet}
use Rattle.fir_net.specs.declared.reads.Read.{Read}
use Rattle.fir_net.specs.declared.reads.Read.TheVariants as read
use Rattle.fir_net.specs.working.Arrays.{begin_of, word_in, words_of}
use Rattle.fir_net.specs.working.IsNet.{CanRead, IsAddressed}
use Rattle.fir_net.specs.working.Settled.{is_high, is_read, value_at, word_read}
use Rattle.fir_flat.specs.working.FlatCircuits.{IsReadingOf, needs_term, stands_for}
use Rattle.fir_flat.specs.working.FlatLaws.{IsFaithful}
use Rattle.fir_flat.proofs.BesideValues.{IsBeside, high_worth}
use Rattle.fir_flat.proofs.FlatArrays.{array_words, word_is}
use Rattle.fir_flat.proofs.NeedTerms.{IsBit, needs_high}

-- whether anything is read
abbrev pub reads_any : LeafCircuit → Env → Reading → Bool
reads_any c env m = are_met env.numbers m.needs && nat_lt (env.numbers m.address) (array_of c m.array).words

module _ (c : LeafCircuit) (net : FlatNet) (faithful : IsFaithful c net) (env : Env) (e : ℕ → ℕ) (beside : IsBeside c net env e) where
  needs_bits : (ns : List Need) → AreNeedsTyped c.leaves ns → AllByRecursion (IsBit (type_of_leaf c) env.numbers) ns
  needs_bits [] typed = tt
  needs_bits (n ∷ ns) typed =
      let type = ap number_type typed.0.is in (
        record { is = type; below = subst (λ (t : NumTy). env.numbers n.leaf < 2 ^ t.width) type (beside.within n.leaf) },
        needs_bits ns typed.1,
      )

  -- what enables is 1 where all needs are met
  pub enabled : (r : Read) (ns : List Need) → CanRead net.leaves net.nodes r → stands_for net.nodes r ≡ needs_term ns → AreNeedsTyped c.leaves ns
      → is_high net e r ≡ are_met env.numbers ns
  enabled r ns can is typed =
      high_worth c net faithful env e beside r (needs_term ns) can is ∙ needs_high (type_of_leaf c) env.numbers ns (needs_bits ns typed)

  -- what is read of a leaf
  pub leaf_number : (r : Read) (x : ℕ) → CanRead net.leaves net.nodes r → r ≡ read.Leaf x → (value_at net e r).value.number ≡ env.numbers x
  leaf_number r x can is =
      let own = subst (CanRead net.leaves net.nodes) is can in
      ap (λ (q : Read). (value_at net e q).value.number) is ∙ beside.values x own.0 own.1 own.2

  module _ (r : ArrayRead) (m : Reading) (is : IsReadingOf net.nodes r m) (can : IsAddressed net.leaves net.nodes r.address r.enable)
      (typed : AreNeedsTyped c.leaves m.needs) where
    abbrev address : ℕ
    address = (value_at net e r.address).value.number

    pub address_is : address ≡ env.numbers m.address
    address_is = leaf_number r.address m.address can.address is.address

    pub reads_where : is_read net e r ≡ reads_any c env m
    reads_where =
        ap (λ (b : Bool). b && nat_lt address (words_of net.arrays r.array)) (enabled r.enable m.needs can.enable is.enable typed)
        ∙ ap (λ (n : ℕ). are_met env.numbers m.needs && nat_lt n (words_of net.arrays r.array)) address_is
        ∙ ap (λ (n : ℕ). are_met env.numbers m.needs && nat_lt (env.numbers m.address) n)
        (ap (words_of net.arrays) is.array ∙ array_words c net faithful.flat m.array)

    pub word_read_is : (state : List ℕ) → word_read net state e r ≡ read_before c state env m
    word_read_is state =
        ap (λ (b : Bool). if b then word_in state (begin_of net r.array) address else 0) reads_where
        ∙ ap (λ (n : ℕ). if reads_any c env m then n else 0)
        (ap (λ (k : ℕ). word_in state (begin_of net k) address) is.array ∙ ap (word_in state (begin_of net m.array)) address_is
        ∙ word_is c net faithful.flat state m.array (env.numbers m.address))
