-- The first fault of lists one behind the other.
use Rattle.std.proofs.Common.{◌≡◌, List, [], ◌++◌, sym, ap, subst}
use Rattle.std.specs.Prelude.{Option, None}
use Rattle.ver_fault.specs.declared.fault.VerFault.{VerFault}
use Rattle.ver_fault.specs.Faults.{VFault}
use Rattle.ver_check.specs.TreeFaults.{BeginsWith}
use Rattle.ver_check.specs.working.Findings.{IsFirst}

-- a list that begins so, with another behind it
pub begins_more : (f : VFault) (fs gs : List VFault) → BeginsWith fs f → BeginsWith (fs ++ gs) f
begins_more f fs gs h = (h.0 ++ gs, ap (λ (xs : List VFault). xs ++ gs) h.1)

-- where there is none in the first list, it is that of the second
pub none_before : (fs gs : List VFault) → fs ≡ [] → fs ++ gs ≡ gs
none_before fs gs e = ap (λ (xs : List VFault). xs ++ gs) e

pub first_of_both : (one two : Option VerFault) (fs gs : List VFault) → one ≡ None → IsFirst one fs → IsFirst two gs → IsFirst two (fs ++ gs)
first_of_both one two fs gs e h k =
    subst (IsFirst two) (sym (none_before fs gs (subst (λ (o : Option VerFault). IsFirst o fs) e h))) k
