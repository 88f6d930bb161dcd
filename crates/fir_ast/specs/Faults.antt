-- A fault of a circuit or of its text: its code, its place, and what its line says behind the place; and that line.
use Rattle.std.specs.Prelude.{ℕ, List, ◌++◌, codes}
use Rattle.fir_ast.specs.declared.place.Place.{Place}
use Rattle.fir_ast.specs.Texts.{place_text}

pub data Code : Type 0 where
  E01 E02 E03 E04 E05 E06 E07 : Code
  E08 E09 E10 E11 E12 E13 E14 : Code
  E15 E16 E17 E18 E19 E20 E21 : Code
  E22 E23 E24 E25 E26 E27 E28 : Code

pub record Fault : Type 0 where
  pub code : Code
  pub place : Place
  pub evidence : List ℕ

abbrev pub code_word : Code → List ℕ
code_word E01 = codes "E01"
code_word E02 = codes "E02"
code_word E03 = codes "E03"
code_word E04 = codes "E04"
code_word E05 = codes "E05"
code_word E06 = codes "E06"
code_word E07 = codes "E07"
code_word E08 = codes "E08"
code_word E09 = codes "E09"
code_word E10 = codes "E10"
code_word E11 = codes "E11"
code_word E12 = codes "E12"
code_word E13 = codes "E13"
code_word E14 = codes "E14"
code_word E15 = codes "E15"
code_word E16 = codes "E16"
code_word E17 = codes "E17"
code_word E18 = codes "E18"
code_word E19 = codes "E19"
code_word E20 = codes "E20"
code_word E21 = codes "E21"
code_word E22 = codes "E22"
code_word E23 = codes "E23"
code_word E24 = codes "E24"
code_word E25 = codes "E25"
code_word E26 = codes "E26"
code_word E27 = codes "E27"
code_word E28 = codes "E28"

-- its code, its place and its evidence, separated by single spaces, and a newline
abbrev pub fault_line : Fault → List ℕ
fault_line f = code_word f.code ++ codes " " ++ place_text f.place ++ codes " " ++ f.evidence ++ codes "\n"
