-- What a fault of the code says: its code, its place and its evidence.
use Rattle.std.specs.Prelude.{ℕ, List, ◌++◌, codes, decimal}
use Rattle.ver_ast.specs.declared.place.VPlace.{VPlace}
use Rattle.ver_fault.specs.declared.fault.VerFault.{VerFault}
use Rattle.ver_fault.specs.declared.fault.VerFault.TheVariants as fault
use Rattle.ver_fault.specs.Faults.{VCode, V01, V02, V03, V04, V05, V06, V07, V08, VFault}
use Rattle.ver_fault.specs.Texts.{vplace_text, byte_text, walk_text}

abbrev pub vcode_of : VerFault → VCode
vcode_of (fault.Byte p b) = V01
vcode_of (fault.Syntax p) = V02
vcode_of (fault.Undeclared p name) = V03
vcode_of (fault.Width p needed found) = V04
vcode_of (fault.Kind p) = V04
vcode_of (fault.Twice p name first) = V05
vcode_of (fault.Loop p walk) = V06
vcode_of (fault.Depth p) = V07
vcode_of (fault.Undriven p name) = V08

abbrev pub vfault_place : VerFault → VPlace
vfault_place (fault.Byte p b) = p
vfault_place (fault.Syntax p) = p
vfault_place (fault.Undeclared p name) = p
vfault_place (fault.Width p needed found) = p
vfault_place (fault.Kind p) = p
vfault_place (fault.Twice p name first) = p
vfault_place (fault.Loop p walk) = p
vfault_place (fault.Depth p) = p
vfault_place (fault.Undriven p name) = p

abbrev pub vevidence : VerFault → List ℕ
vevidence (fault.Byte p b) = codes "byte " ++ byte_text b
vevidence (fault.Syntax p) = codes "syntax"
vevidence (fault.Undeclared p name) = codes "undeclared " ++ name
vevidence (fault.Width p needed found) = codes "width " ++ decimal needed ++ codes " " ++ decimal found
vevidence (fault.Kind p) = codes "kind"
vevidence (fault.Twice p name first) = codes "twice " ++ name ++ codes " " ++ vplace_text first
vevidence (fault.Loop p walk) = codes "loop " ++ walk_text walk
vevidence (fault.Depth p) = codes "depth 257"
vevidence (fault.Undriven p name) = codes "undriven " ++ name

abbrev pub vfault_of : VerFault → VFault
vfault_of f = record { code = vcode_of f; place = vfault_place f; evidence = vevidence f }
