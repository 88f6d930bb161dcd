-- Which array a leaf of a flat net reads: one whose words are of the type of what the leaf holds (FIRRTL spec, "Memories").
use Rattle.std.proofs.Common.{◌≡◌, ℕ, List, Bool, true, false, Option, Some, None, slice_get, refl, sym, ap, ◌∙◌}
use Rattle.fir_bits.specs.declared.types.NumTy.{NumTy}
use Rattle.fir_leaf_circuit.specs.declared.leaf.LeafType.{LeafType as TypeOfCode}
use Rattle.fir_leaf_circuit.specs.declared.leaf.LeafType.TheVariants.{Clock, Number}
use Rattle.fir_leaf_circuit.specs.declared.leaf.ReadingRole.{ReadingRole}
use Rattle.fir_meaning.specs.LeafTypes.{number}
use Rattle.fir_meaning.specs.working.LeafCircuits.{LeafCircuit}
use Rattle.fir_meaning.specs.working.LeafModules.{LeafArray, Reading}
use Rattle.fir_connect.specs.working.NetRoles.{NetRole as RoleMeant}
use Rattle.fir_connect.specs.working.NetRoles as meant
use Rattle.fir_connect.specs.working.NetTerms.{NetTerm}
use Rattle.fir_net.specs.declared.leaf.Role.{Role}
use Rattle.fir_net.specs.declared.leaf.Role.TheVariants as role
use Rattle.fir_net.specs.declared.reads.Read.{Read}
use Rattle.fir_merge.specs.declared.bound.Bound.{Bound}
use Rattle.fir_whens.specs.declared.net_role.NetRole.{NetRole}
use Rattle.fir_whens.specs.declared.net_role.NetRole.TheVariants as code
use Rattle.fir_flatten.specs.working.FlatRoles.{driven_role, flat_role_of}
use Rattle.fir_flatten.proofs.GivenRoles.{IsGiven, Reads}

-- the number of the array that is read
abbrev pub reads_array : Role → Option ℕ
reads_array (role.Reading r) = Some r.array
reads_array (role.Pipe p) = Some p.read.array
reads_array _ = None

pub record ReadsWords (c : LeafCircuit) (holds : TypeOfCode) (k : ℕ) : Type 0 where
  pub data_type : NumTy
  pub is : holds ≡ Number data_type
  pub array : LeafArray
  pub is_there : slice_get c.arrays k ≡ Some array
  pub of_type : array.holds ≡ number data_type

driven_reads : (places : List ℕ) (outer : Bool) (holds : TypeOfCode) (r : Read) → reads_array (driven_role places outer holds r) ≡ None
driven_reads places true (Number u) r = refl
driven_reads places true Clock r = refl
driven_reads places false (Number u) r = refl
driven_reads places false Clock r = refl

none_reads : (c : LeafCircuit) (holds : TypeOfCode) (k : ℕ) (o : Option ℕ) → o ≡ None → o ≡ Some k → ReadsWords c holds k
none_reads c holds k o e f = cc

words_read : (c : LeafCircuit) (u : NumTy) (e : ReadingRole) (m : Reading) (k : ℕ) → Reads c u e m → e.array ≡ k → ReadsWords c (Number u) k
words_read c u e m k is same = record {
  data_type = u;
  is = refl;
  array = is.typed.array;
  is_there = ap (slice_get c.arrays) (sym same) ∙ is.typed.is_there;
  of_type = is.typed.holds;
}

module _ (c : LeafCircuit) (Stands : Bound → NetTerm → Type 0) (places : List ℕ) (outer driven : Bool) (count : ℕ) where
  pub reads_words : (holds : TypeOfCode) (r : NetRole) (q : RoleMeant) → IsGiven c Stands holds r q → (k : ℕ)
      → reads_array (flat_role_of places outer driven holds r count) ≡ Some k → ReadsWords c holds k
  reads_words Clock code.Source meant.source is k reads = cc
  reads_words (Number u) code.Source meant.source is k reads = cc
  reads_words Clock (code.Driven b) (meant.driven t) is k reads = none_reads c Clock k _ (driven_reads places outer Clock b.read) reads
  reads_words Clock (code.Computed b) (meant.computed t) is k reads = none_reads c Clock k _ (driven_reads places outer Clock b.read) reads
  reads_words (Number u) (code.Driven b) (meant.driven t) is k reads = none_reads c (Number u) k _ (driven_reads places outer (Number u) b.read) reads
  reads_words (Number u) (code.Computed b) (meant.computed t) is k reads = none_reads c (Number u) k _ (driven_reads places outer (Number u) b.read) reads
  reads_words (Number u) (code.Register clock s next) (meant.register j p t) is k reads = cc
  reads_words (Number u) (code.Reading e) (meant.reading m) is k reads = let same : e.array ≡ k = cc in words_read c u e m k is same
  reads_words (Number u) (code.Pipe e clock under) (meant.pipe m j v) is k reads = let same : e.array ≡ k = cc in words_read c u e m k is.reads same
  reads_words holds r q is k reads = absurd is
