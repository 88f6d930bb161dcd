-- The kind of an end is that of its ground type.
use Rattle.std.proofs.Common.{◌≡◌, refl, sym, ◌∙◌}
use Rattle.fir_ast.specs.Types.{uint, reset, async_reset}
use Rattle.fir_infer_resets.specs.declared.graph.Kind.{Kind}
use Rattle.fir_infer_resets.specs.declared.graph.Kind.TheVariants.{Unsigned, Asynchronous, Reset, Other}
use Rattle.fir_meaning.specs.ResetItems.{End}
use Rattle.fir_meaning.specs.ResetWalks.{IsReset, IsAsyncReset, IsUInt}
use Rattle.fir_infer_resets.specs.working.BuiltGraphs.{HasKind}

pub no_async_reset : (e : End) → IsReset e → IsAsyncReset e → ⊥
no_async_reset e r a = let c : reset ≡ async_reset = sym r ∙ a in cc

pub no_uint_reset : (e : End) → IsReset e → IsUInt e → ⊥
no_uint_reset e r u = let c : reset ≡ uint u.0 = sym r ∙ u.1 in cc

pub no_uint_async : (e : End) → IsAsyncReset e → IsUInt e → ⊥
no_uint_async e a u = let c : async_reset ≡ uint u.0 = sym a ∙ u.1 in cc

pub reset_kind : (e : End) (k : Kind) → HasKind e k → IsReset e → k ≡ Reset
reset_kind e Unsigned h r = absurd (no_uint_reset e r h)
reset_kind e Asynchronous h r = absurd (no_async_reset e r h)
reset_kind e Reset h r = refl
reset_kind e Other h r = absurd (h.2 r)

pub async_kind : (e : End) (k : Kind) → HasKind e k → IsAsyncReset e → k ≡ Asynchronous
async_kind e Unsigned h a = absurd (no_uint_async e a h)
async_kind e Asynchronous h a = refl
async_kind e Reset h a = absurd (no_async_reset e h a)
async_kind e Other h a = absurd (h.1 a)

pub uint_kind : (e : End) (k : Kind) → HasKind e k → IsUInt e → k ≡ Unsigned
uint_kind e Unsigned h u = refl
uint_kind e Asynchronous h u = absurd (no_uint_async e h u)
uint_kind e Reset h u = absurd (no_uint_reset e h u)
uint_kind e Other h u = absurd (h.0 u)
