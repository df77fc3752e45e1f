-- From the reader's answer to the listing's contract. Assumes nothing.
use mathlib.Core.Path.{◌≡◌, sym, ap, ◌∙◌}
use Prim.Native.Nat.{ℕ, ◌+◌, ◌≤◌}
use mathlib.Core.List.{List}
use native.Mathlib.Omega.{arith}
use lib.ListN.{length}
use lib.Seq.{sets-eq, length-sets, length-take-le}
use Rattle.numbers.specs.Answer.{gives}
use Rattle.numbers.specs.declared.HeaderRefusal.{HeaderRefusal}
use Rattle.numbers.specs.declared.Refused.{Refused}
use Rattle.numbers.specs.GivenBack.{refused_with, header_says}
use Rattle.header_reader.specs.declared.Header.{Header}
use Rattle.header_reader.specs.Reading.{read_header}
use Rattle.listing_lines.specs.Lines.{fields, refusal}
use Rattle.output.specs.Puts.{Puts}
use Rattle.listing.specs.Listing.{listing, listing_of, Lists}

-- text at the start of the output that is the listing
lists : {d e t : List ℕ} {r : ℕ} (s : List ℕ) → t ≡ listing_of s → r ≤ 128 → 128 ≤ length d → Puts d e 0 t r → Lists s d e r
lists {d} {e} {t} {r} s same small room x =
    let b : 0 + length t ≡ r = omega (arith, x.behind) in
    let n : length e ≡ length d = ap length x.is ∙ length-sets d 0 t in
    record {
      bytes = x.is ∙ sets-eq t d 0 (omega arith) ∙ rw (b, same);
      counted = omega (arith, ap length same);
      within = (omega arith, sym (length-take-le r e (omega arith)));
    }

module _ {d e : List ℕ} {r : ℕ} (s : List ℕ) where
  pub lists_fields : {v : Header} → gives v ≡ read_header s → r ≤ 128 → 128 ≤ length d → Puts d e 0 (fields v) r → Lists s d e r
  lists_fields read = lists s (ap listing read)

  pub lists_refusal : (h : HeaderRefusal) {w : Refused} → refused_with (header_says h) ≡ read_header s → w ≡ header_says h → r ≤ 128 → 128 ≤ length d
      → Puts d e 0 (refusal w.number w.place) r → Lists s d e r
  lists_refusal h read is = lists s (ap (λ (z : Refused). refusal z.number z.place) is ∙ ap listing read)
