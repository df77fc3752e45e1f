-- The writer makes no tag that has to be known and is not; and cases of that rule. Assumes nothing.
use mathlib.Core.Path.{◌≡◌, refl, ap, subst, ◌∙◌}
use Prim.Native.Nat.{ℕ, ◌<◌}
use mathlib.Core.List.{List, ◌++◌}
use mathlib.Core.Bool.{Bool, true, false}
use mathlib.Core.Logic.{inl}
use native.Mathlib.Omega.{arith}
use lib.ListN.{length, take}
use lib.Dec.{lit<}
use Rattle.numbers.specs.Answer.{refused}
use Rattle.numbers.specs.Every.{Every}
use Rattle.numbers.proofs.Every.{every}
use Rattle.header_tags.specs.Walk.{item_at, item_from, tags_from, Tags, ended, broken, more, tags_at}
use Rattle.header_tags.specs.Bytes.{little_endian}
use Rattle.header_tags.specs.Standing.{TagAt, Walked, here, behind}
use Rattle.header_tags.proofs.Found.{tags_of}
use Rattle.header_places.specs.Table.{document_table}
use Rattle.header_places.specs.Judging.{judge, row_of, places_in}
use Rattle.header_places.specs.RuledOut.{Known}
use Rattle.header_places.proofs.RuledOut.{known}
use Rattle.header_places.proofs.Understood.{known_under, read_as_before}
use Rattle.header_reader.specs.Reading.{magic}
use Rattle.header_reader.proofs.Understood.{understood_low}
use Rattle.header_writer.specs.Writing.{hint_fields, write_header}
use Rattle.header_round_trips.specs.Cases.{HeaderCase, written, refusing, HeaderCaseHolds}
use Rattle.header_round_trips.specs.Critical.{WritesNoCritical, critical_cases, CriticalCases}
use Rattle.header_round_trips.proofs.Back.{tags_written, write_then_read}
use Rattle.header_round_trips.proofs.Marked.{refuses}

-- ---- what is written

-- each tag's type has a row
abbrev Rows : Tags → Type 0
Rows ended = Unit {0}
Rows (broken n p) = Unit {0}
Rows (more q t n rest) = (row_of document_table.types t < 6) × Rows rest

has_row : {g : Tags} {q t : ℕ} → Rows g → Walked g q t → row_of document_table.types t < 6
has_row r (here q t n rest) = r.0
has_row r (behind q t p k n rest w) = has_row r.1 w

rows : (b : Bool) (hint : List ℕ)
    → Rows (more 8 0x0001 4 (more 16 0x0002 8 (more 28 0x0003 32 (more 64 0x0020 64 (more 132 0x0030 2 (tags_of 138 (hint_fields b hint)))))))
unfolding row_of tags_of
rows true hint = (lit< tt, (lit< tt, (lit< tt, (lit< tt, (lit< tt, (lit< tt, tt))))))
rows false hint = (lit< tt, (lit< tt, (lit< tt, (lit< tt, (lit< tt, tt)))))

pub writes_no_critical : WritesNoCritical
writes_no_critical v f out room =
    record {
      known = knows;
      low = λ q t w. omega (arith, understood_low t (inl (knows q t w)));
      untouched = λ bound. read_as_before document_table _ bound (λ q t w. (inl (knows q t w), inl (known_under bound (knows q t w))));
    }
  where
    tags : tags_at (take 256 (write_header v out).bytes) 8
        ≡ more 8 0x0001 4 (more 16 0x0002 8 (more 28 0x0003 32 (more 64 0x0020 64 (more 132 0x0030 2 (tags_of 138 (hint_fields v.has_hint v.hint))))))
    tags = ap (λ (h : List ℕ). tags_at h 8) (write_then_read v f out room).header ∙ tags_written v f

    knows : (q t : ℕ) → TagAt (write_header v out).bytes q t → Known document_table t
    knows q t w = known document_table t (has_row (rows v.has_hint v.hint) (subst (λ (g : Tags). Walked g q t) tags w))

-- ---- the cases

-- what is computed of a case: the tags of a whole header are refused, whatever its size
abbrev Computes : HeaderCase → Type 0
Computes (written hint tags place) = ⊥
Computes (refusing bytes n p) =
    (length bytes ≡ 248) × ((size : ℕ) → places_in document_table (magic ++ (little_endian 4 size ++ bytes)) ≡ refused n p)

computes : Every Computes critical_cases
unfolding places_in judge row_of tags_from item_from item_at
computes = (
  (refl, λ size. refl),
  ((refl, λ size. refl), ((refl, λ size. refl), ((refl, λ size. refl), ((refl, λ size. refl), ((refl, λ size. refl), ((refl, λ size. refl), ((refl, λ size. refl), ((refl, λ size. refl), ((refl, λ size. refl), ((refl, λ size. refl), tt)))))))))),
)

holds : (c : HeaderCase) → Computes c → HeaderCaseHolds c
holds (written hint tags place) w = absurd w
holds (refusing bytes n p) w = refuses bytes n p w.0 w.1

pub critical_cases_lem : CriticalCases
critical_cases_lem = every Computes HeaderCaseHolds holds critical_cases computes
