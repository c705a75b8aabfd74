-- A sheet written in another version: another length and version in front, the same month and counts behind
-- them. Assumes nothing.
use mathlib.Core.Path.{◌≡◌, sym, ap, subst, ◌∙◌}
use mathlib.Core.List.{List, [], ◌∷◌, ◌++◌}
use Prim.Native.Nat.{ℕ, ◌≤◌, ◌<◌}
use native.Mathlib.Omega.{arith}
use lib.ListN.{length}
use Rattle.rules.specs.declared.Layout.{Layout}
use Rattle.rules.specs.Limits.{HeaderLimits, FormLimits}
use Rattle.rules.specs.Fields.{big_endian, field, laid, width_of}
use Rattle.rules.specs.Sheet.{length_field, version, header_of, layout_of, sheet_length}
use Rattle.laws.proofs.Fields.{Holds, holds_left, holds_right, length-laid, read_laid}
use Rattle.laws.proofs.Sheet.{SameFields, sheet_length_in_full, header_same}

-- The length and the version.
abbrev pub front : ℕ → ℕ → List ℕ
front long v = laid (field 4 long ∷ field 1 v ∷ [])

pub length_front : (long v : ℕ) → length (front long v) ≡ 5
unfolding width_of
length_front long v = length-laid (field 4 long ∷ field 1 v ∷ [])

module _ (s t : List ℕ) (long v : ℕ) (rest : List ℕ) (whole : Holds t 0 (front long v ++ rest)) where
  pub behind_front : Holds t 5 rest
  behind_front = holds_right t 0 (front long v) rest (omega (arith, length_front long v)) whole

  abbrev after : Layout
  after = record { version = v; header = header_of s }

  -- Both fit their fields, and the month and the counts are those of s.
  module _ (long_fits : long < 4294967296) (v_fits : v < 256) (same : SameFields 9 t 5 s 5) where
    front_read : (big_endian 4 t 0 ≡ long) × (big_endian 1 t 4 ≡ v)
    front_read =
        let r = read_laid t 0 (field 4 long ∷ field 1 v ∷ []) (long_fits, (v_fits, tt)) (holds_left t 0 (front long v) rest whole) in (r.0, r.1.0)

    pub layout_after : layout_of t ≡ after
    unfolding version
    layout_after = rw (front_read.1, header_same t s same)

    -- It gets past number 6, if s does and it is as long as its own version asks for.
    module _ (form : FormLimits s) (from : 1 ≤ v) (to : v ≤ 3) (told : length t ≡ long) (right : long ≡ sheet_length after) where
      length_stated : length_field t ≡ long
      unfolding length_field
      length_stated = front_read.0

      version_after : version t ≡ v
      version_after = ap (λ (x : Layout). x.version) layout_after

      pub form_after : FormLimits t
      form_after =
          record {
            whole_header = omega (arith, told, right, sheet_length_in_full after);
            length_told = length_stated ∙ sym told;
            version_from = rw version_after from;
            version_to = rw version_after to;
            header = subst HeaderLimits (sym (ap (λ (x : Layout). x.header) layout_after)) form.header;
            length_right = length_stated ∙ right ∙ ap sheet_length (sym layout_after);
          }
