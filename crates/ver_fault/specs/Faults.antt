-- A fault of a Verilog text: its code, its place, and what its line says behind the place; and that line.
use Rattle.std.specs.Prelude.{ℕ, List, ◌++◌, codes}
use Rattle.ver_ast.specs.declared.place.VPlace.{VPlace}
use Rattle.ver_fault.specs.Texts.{vplace_text}

pub data VCode : Type 0 where
  V01 V02 V03 V04 V05 V06 V07 V08 : VCode

pub record VFault : Type 0 where
  pub code : VCode
  pub place : VPlace
  pub evidence : List ℕ

abbrev pub vcode_word : VCode → List ℕ
vcode_word V01 = codes "V01"
vcode_word V02 = codes "V02"
vcode_word V03 = codes "V03"
vcode_word V04 = codes "V04"
vcode_word V05 = codes "V05"
vcode_word V06 = codes "V06"
vcode_word V07 = codes "V07"
vcode_word V08 = codes "V08"

-- its code, its place and its evidence, separated by single spaces, and a newline
abbrev pub vfault_line : VFault → List ℕ
vfault_line f = vcode_word f.code ++ codes " " ++ vplace_text f.place ++ codes " " ++ f.evidence ++ codes "\n"
