-- When the reader refuses, and in which order. Assumes nothing.
use mathlib.Core.Path.{◌≡◌, refl, sym, ◌∙◌}
use mathlib.Core.Logic.{◌≢◌}
use Prim.Native.Nat.{ℕ, ◌+◌, ◌*◌, ◌≤◌, ◌<◌}
use mathlib.Core.List.{List}
use native.Mathlib.Omega.{arith}
use native.Mathlib.Decide.{dec_lt, ℕ_discrete}
use lib.ListN.{length, get_or, take}
use lib.Seq.{length-take-le, get_or-take}
use Rattle.numbers.specs.Answer.{Answer, gives, refused, then}
use Rattle.numbers.proofs.Refusals.{apart}
use Rattle.header_tags.specs.Bytes.{number}
use Rattle.header_tags.proofs.Padding.{gives_refused, number_same}
use Rattle.header_places.specs.Table.{document_table}
use Rattle.header_places.specs.Judging.{places_in}
use Rattle.header_places.proofs.RuledOut.{tags_give_their_numbers, beside_the_walk}
use Rattle.header_reader.specs.declared.Header.{Header}
use Rattle.header_reader.specs.Reading.{magic, bytes_at, values_at, read_header}
use Rattle.header_reader.specs.Refusing.{HasMagic, HasSizeZero, ReaderRefuses, WhenReaderRefuses}
use Rattle.header_reader.proofs.BytesAt.{num_4}
use Rattle.header_reader.proofs.Answers.{short, no_magic, no_size, by_tags, by_places}

-- the walk's answer
abbrev walked : List ℕ → Answer Header
walked s = then (places_in document_table (take 256 s)) (λ l. gives (values_at (take 256 s) l))

-- its number is none of the tests before it
walked_number : (s : List ℕ) {n p : ℕ} → walked s ≡ refused n p → (4 ≤ n) × (n ≢ 16)
walked_number s {n} {p} e = go (places_in document_table (take 256 s)) refl e
  where
    go : (a : Answer (List ℕ)) → places_in document_table (take 256 s) ≡ a → then a (λ l. gives (values_at (take 256 s) l)) ≡ refused n p
        → (4 ≤ n) × (n ≢ 16)
    go (gives l) x d = gives_refused d
    go (refused m q) x d =
        let w = beside_the_walk (tags_give_their_numbers document_table (take 256 s) m q x) in
        let k = number_same d in
        (omega arith, λ e. w.1 (k ∙ e))

-- four bytes as a number, and the number as four bytes
module _ (s : List ℕ) (bytes : (i : ℕ) → get_or s i 0 < 256) (room : 256 ≤ length s) where
  four : (p : ℕ) → p + 4 ≤ 256
      → get_or s p 0 + 256 * (get_or s (p + 1) 0 + 256 * (get_or s (p + 2) 0 + 256 * get_or s (p + 3) 0)) ≡ number (bytes_at (take 256 s) p 4)
  four p lt =
      num_4 (take 256 s) p (omega (arith, length-take-le 256 s room))
      (rw (get_or-take 256 s p 0 (omega arith), get_or-take 256 s (p + 1) 0 (omega arith), get_or-take 256 s (p + 2) 0 (omega arith), get_or-take 256 s (p + 3) 0 (omega arith)))

  pub has_magic : number (bytes_at (take 256 s) 0 4) ≡ number magic → HasMagic s
  has_magic e =
      let k = four 0 (omega arith) ∙ e in
      let b0 = bytes 0 in
      let b1 = bytes 1 in
      let b2 = bytes 2 in
      let b3 = bytes 3 in
      (omega arith, omega arith, omega arith, omega arith)

  pub magic_there : HasMagic s → number (bytes_at (take 256 s) 0 4) ≡ number magic
  magic_there w =
      let k = four 0 (omega arith) in
      sym k ∙ omega (arith, w.0, w.1, w.2, w.3)

  pub has_zero : number (bytes_at (take 256 s) 4 4) ≡ 0 → HasSizeZero s
  has_zero e =
      let k = four 4 (omega arith) ∙ e in
      (omega arith, omega arith, omega arith, omega arith)

  pub zero_there : HasSizeZero s → number (bytes_at (take 256 s) 4 4) ≡ 0
  zero_there w =
      let k = four 4 (omega arith) in
      sym k ∙ omega (arith, w.0, w.1, w.2, w.3)

-- the four cases: each has its answer, and the others not
module _ (s : List ℕ) where
  by_short : length s < 256 → ReaderRefuses s
  by_short lt =
      let is : read_header s ≡ refused 16 0 = by_places s (short s lt) in
      record {
        short = (λ e. lt, λ l. is);
        magic = (λ e. apart is e (λ n. omega arith), λ w. absurd (omega (arith, w.0)));
        zero = (λ e. apart is e (λ n. omega arith), λ w. absurd (omega (arith, w.0)));
        walk = λ room. absurd (omega arith);
      }

  module _ (bytes : (i : ℕ) → get_or s i 0 < 256) (room : 256 ≤ length s) where
    by_magic : (number (bytes_at (take 256 s) 0 4) ≡ number magic → ⊥) → ReaderRefuses s
    by_magic d =
        let is : read_header s ≡ refused 2 0 = by_places s (no_magic s room refl d) in
        let not : HasMagic s → ⊥ = λ m. d (magic_there s bytes room m) in
        record {
          short = (λ e. apart is e (λ n. omega arith), λ l. absurd (omega arith));
          magic = (λ e. (room, not), λ w. is);
          zero = (λ e. apart is e (λ n. omega arith), λ w. absurd (not w.1));
          walk = λ r m. absurd (not m);
        }

    module _ (m : number (bytes_at (take 256 s) 0 4) ≡ number magic) where
      by_zero : number (bytes_at (take 256 s) 4 4) ≡ 0 → ReaderRefuses s
      by_zero z =
          let is : read_header s ≡ refused 3 4 = by_places s (no_size s room refl m refl z) in
          record {
            short = (λ e. apart is e (λ n. omega arith), λ l. absurd (omega arith));
            magic = (λ e. apart is e (λ n. omega arith), λ w. absurd (w.1 (has_magic s bytes room m)));
            zero = (λ e. (room, has_magic s bytes room m, has_zero s bytes room z), λ w. is);
            walk = λ r h d. absurd (d (has_zero s bytes room z));
          }

      by_walk : (number (bytes_at (take 256 s) 4 4) ≡ 0 → ⊥) → ReaderRefuses s
      by_walk d =
          let is : read_header s ≡ walked s = by_places s (by_tags s room refl m refl d) in
          record {
            short = (λ e. absurd ((walked_number s (sym is ∙ e)).1 refl), λ l. absurd (omega arith));
            magic = (λ e. absurd (let w = walked_number s (sym is ∙ e) in omega arith), λ w. absurd (w.1 (has_magic s bytes room m)));
            zero = (λ e. absurd (let w = walked_number s (sym is ∙ e) in omega arith), λ w. absurd (d (zero_there s bytes room w.2)));
            walk = λ r h z. is;
          }

pub when_reader_refuses : WhenReaderRefuses
when_reader_refuses s bytes =
    go (dec_lt (length s) 256) (ℕ_discrete (number (bytes_at (take 256 s) 0 4)) (number magic)) (ℕ_discrete (number (bytes_at (take 256 s) 4 4)) 0)
  where
    go : Dec (length s < 256) → Dec (number (bytes_at (take 256 s) 0 4) ≡ number magic) → Dec (number (bytes_at (take 256 s) 4 4) ≡ 0)
        → ReaderRefuses s
    go (yes lt) m z = by_short s lt
    go (no ge) (no d) z = by_magic s bytes (omega arith) d
    go (no ge) (yes m) (yes z) = by_zero s bytes (omega arith) m z
    go (no ge) (yes m) (no d) = by_walk s bytes (omega arith) m d
