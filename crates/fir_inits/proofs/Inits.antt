-- The init of a register with an asynchronous reset is one that the net reads; and which reset it is of.
use Rattle.std.proofs.Common.{◌≡◌, ℕ, Some, refl, ap, ◌∙◌}
use Rattle.std.specs.Prelude.{slice_get, Option, None}
use Rattle.fir_net.specs.declared.leaf.Leaf.{Leaf}
use Rattle.fir_net.specs.declared.leaf.Register.{Register}
use Rattle.fir_net.specs.declared.leaf.Reset.{Reset}
use Rattle.fir_net.specs.declared.leaf.ResetKind.{ResetKind}
use Rattle.fir_net.specs.declared.leaf.ResetKind.TheVariants.{Synchronous, Asynchronous}
use Rattle.fir_net.specs.declared.leaf.Role.{Role}
use Rattle.fir_net.specs.declared.leaf.Role.TheVariants as role
use Rattle.fir_net.specs.declared.net.FlatNet.{FlatNet}
use Rattle.fir_net.specs.declared.reads.Read.{Read}
use Rattle.fir_net.specs.declared.reads.Read.TheVariants as read
use Rattle.fir_net.specs.working.Dependence.{kind_reads, reset_reads, role_reads, leaf_reads, IsOf, Reads}
use Rattle.fir_net.specs.working.IsNet.{IsNet}
use Rattle.fir_loop.proofs.NetReads.{reads_within}
use Rattle.fir_inits.specs.working.AsyncInits.{async_init, kind_init, reset_init, HasInit}

-- the reset and its register
pub record IsResetTo (r : Role) (init : Read) : Type 0 where
  pub own : Register
  pub is_register : r ≡ role.Register own
  pub reset : Reset
  pub has_reset : own.reset ≡ Some reset
  pub is_async : reset.kind ≡ Asynchronous
  pub inits : reset.init ≡ init

pub reset_of : (r : Role) (init : Read) → async_init r ≡ Some init → IsResetTo r init
reset_of (role.Register own) init e = by own.reset refl e
  where
    kind_by : (reset : Reset) → own.reset ≡ Some reset → (kind : ResetKind) → reset.kind ≡ kind → kind_init kind reset.init ≡ Some init → IsResetTo (role.Register own) init
    kind_by reset has Synchronous is f = absurd (cc)
    kind_by reset has Asynchronous is f = record { own = own; is_register = refl; reset = reset; has_reset = has; is_async = is; inits = cc }

    by : (o : Option Reset) → own.reset ≡ o → reset_init o ≡ Some init → IsResetTo (role.Register own) init
    by None has f = absurd (cc)
    by (Some reset) has f = kind_by reset has reset.kind refl f
reset_of role.Input init e = absurd (cc)
reset_of role.Clock init e = absurd (cc)
reset_of (role.Output r) init e = absurd (cc)
reset_of (role.Wire r) init e = absurd (cc)
reset_of (role.Reading r) init e = absurd (cc)
reset_of (role.Pipe p) init e = absurd (cc)
reset_of (role.ClockOutput c) init e = absurd (cc)
reset_of (role.ClockWire c) init e = absurd (cc)

-- and the other way round
pub init_with : (r : Role) (own : Register) (reset : Reset) → r ≡ role.Register own → own.reset ≡ Some reset → reset.kind ≡ Asynchronous → async_init r ≡ Some reset.init
init_with r own reset is has kind = ap async_init is ∙ ap reset_init has ∙ ap (λ (k : ResetKind). kind_init k reset.init) kind

pub init_hangs : (net : FlatNet) (k : ℕ) (init : Read) → HasInit net k init → Reads net (read.Leaf k) init
init_hangs net k init h =
    let r = reset_of h.leaf.role init h.is in
    record {
      place = 1;
      is =
          ap (λ (o : Option Leaf). slice_get (leaf_reads o) 1) h.at ∙ ap (λ (x : Role). slice_get (role_reads x) 1) r.is_register
          ∙ ap (λ (o : Option Reset). slice_get (reset_reads o) 1) r.has_reset ∙ ap (λ (x : ResetKind). slice_get (kind_reads x r.reset.condition r.reset.init) 1) r.is_async ∙ ap Some r.inits;
    }

pub init_is_of : (net : FlatNet) → IsNet net → (k : ℕ) (init : Read) → HasInit net k init → IsOf net init
init_is_of net whole k init h = reads_within net whole (read.Leaf k) init (init_hangs net k init h)
