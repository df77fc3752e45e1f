-- A header put together again from its parts. Assumes nothing.
use mathlib.Core.Path.{◌≡◌, refl, sym, ap, ap₂, ◌∙◌}
use Prim.Native.Nat.{ℕ, ◌+◌, ◌*◌, ◌≤◌}
use mathlib.Core.List.{List, ◌++◌, append_assoc}
use native.Mathlib.Omega.{arith}
use lib.ListN.{length, get_or, take, drop, take-append-drop}
use lib.Seq.{length-take-le, drop-drop}
use Rattle.numbers.specs.Answer.{gives}
use Rattle.header_tags.specs.Bytes.{AllBytes, little_endian, number, tag_bytes}
use Rattle.header_tags.specs.Standing.{TagStands}
use Rattle.header_reader.specs.declared.Header.{Header}
use Rattle.header_reader.specs.Reading.{magic, bytes_at, read_header}
use Rattle.header_reader.proofs.Answers.{located, places_taken}
use Rattle.header_writer.specs.Writing.{front}
use Rattle.header_reader.proofs.BytesAt.{length_part, num_2, part_bytes}
use Rattle.header_round_trips.proofs.Numbers.{bytes_back}

module _ (h : List ℕ) (bytes : AllBytes h) where
  -- the bytes of the number that a part is
  pub part_back : (p n : ℕ) → p + n ≤ length h → little_endian n (number (bytes_at h p n)) ≡ bytes_at h p n
  part_back p n fits = bytes_back (bytes_at h p n) n (part_bytes h bytes p n) (length_part h p n fits)

  -- a part, and what stands behind it
  pub split : (p n q : ℕ) → p + n ≡ q → drop p h ≡ bytes_at h p n ++ drop q h
  split p n q e = sym (take-append-drop n (drop p h)) ∙ ap (λ (l : List ℕ). bytes_at h p n ++ l) (drop-drop n p h ∙ ap (λ (k : ℕ). drop k h) e)

  -- two bytes that are a number
  two : (p x : ℕ) → p + 2 ≤ length h → get_or h p 0 + 256 * get_or h (p + 1) 0 ≡ x → bytes_at h p 2 ≡ little_endian 2 x
  two p x fits e = sym (part_back p 2 fits) ∙ ap (little_endian 2) (sym (num_2 h p fits refl) ∙ e)

  -- a tag that stands at q, and what stands behind it
  pub tag_there : (q : ℕ) {t n : ℕ} {r : ℕ} → TagStands h q t n → q + 4 + n ≡ r → drop q h ≡ tag_bytes t (bytes_at h (q + 4) n) ++ drop r h
  tag_there q {t} {n} {r} s e =
      let v : List ℕ = bytes_at h (q + 4) n in
      let k : q + 2 + 1 ≡ q + 3 = omega arith in
      let size : get_or h (q + 2) 0 + 256 * get_or h (q + 2 + 1) 0 ≡ length v = rw k (s.size ∙ sym (length_part h (q + 4) n s.fits)) in
      let a = two q t (omega (arith, s.fits)) s.type in
      let b = two (q + 2) (length v) (omega (arith, s.fits)) size in
      let x : List ℕ = little_endian 2 t in
      let y : List ℕ = little_endian 2 (length v) in
      split q 2 (q + 2) refl
      ∙ ap₂ (λ (f g : List ℕ). f ++ g) a
      (split (q + 2) 2 (q + 4) (omega arith) ∙ ap₂ (λ (f g : List ℕ). f ++ g) b (split (q + 4) n r e))
      ∙ sym (append_assoc x (y ++ v) (drop r h) ∙ ap (λ (l : List ℕ). x ++ l) (append_assoc y v (drop r h)))

  -- the same, where the value is a number
  pub number_there : (q : ℕ) {t n : ℕ} {r : ℕ} → TagStands h q t n → q + 4 + n ≡ r
      → drop q h ≡ tag_bytes t (little_endian n (number (bytes_at h (q + 4) n))) ++ drop r h
  number_there q {t} {n} {r} s e =
      tag_there q s e ∙ ap (λ (l : List ℕ). tag_bytes t l ++ drop r h) (sym (part_back (q + 4) n s.fits))

-- magic and size, of a header that the reader takes with the values v: they are those of the written form
pub front_there : (s : List ℕ) → AllBytes s → (v : Header) → read_header s ≡ gives v → take 256 s ≡ front v ++ drop 8 (take 256 s)
front_there s bytes v read =
    let h : List ℕ = take 256 s in
    let b : AllBytes h = part_bytes s bytes 0 256 in
    let t = places_taken s v read in
    let w = located s t.places t.found in
    let long : length h ≡ 256 = length-take-le 256 s w.room in
    let m : bytes_at h 0 4 ≡ magic = sym (part_back h b 0 4 (omega arith)) ∙ ap (little_endian 4) w.marked in
    let z : bytes_at h 4 4 ≡ little_endian 4 v.size =
    sym (part_back h b 4 4 (omega arith)) ∙ ap (little_endian 4) (sym (ap (λ (u : Header). u.size) t.is)) in
    split h b 0 4 4 refl
    ∙ ap₂ (λ (x y : List ℕ). x ++ y) m (split h b 4 4 8 refl ∙ ap (λ (x : List ℕ). x ++ drop 8 h) z)
    ∙ sym (append_assoc magic (little_endian 4 v.size) (drop 8 h))
