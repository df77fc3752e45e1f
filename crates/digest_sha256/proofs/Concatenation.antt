-- Absorbing parts is absorbing their concatenation.
use Rattle.std.proofs.Common.{◌≡◌, ℕ, zero, suc, ◌+◌, ◌-◌, ◌*◌, ◌/◌, ◌%◌, ◌^◌, ◌≤◌, List, [], ◌∷◌, ◌++◌, length, take, drop, replicate, sym, refl, ap, ◌∙◌, ap₂, append_assoc, append-nil, add-zero, add-suc, arith, length-append, length-drop, drop_of_length-le, length-take-le, drop-drop, take_at}
use lib.Seq.{take-append-le, drop-append-le}
use Rattle.digest_sha256.specs.declared.Hasher.{Hasher}
use Rattle.digest_fips180.specs.Sha256.{block, words, zeros, big_endian, padding, pad, H0, compress, hash, bytes, sha256}
use Rattle.digest_sha256.specs.Parts.{hash_over, left_of, settle, state_of, waiting, absorb_of, absorb_all, joined, finish_of, digest_after}
use Rattle.digest_sha256.specs.Claims.{ConcatenationLaw, AbsorbLaw, FinishLaw, PartsLaw}

pub cons : {x y : ℕ} {xs ys : List ℕ} → x ≡ y → xs ≡ ys → x ∷ xs ≡ y ∷ ys
cons p q = ap₂ ◌∷◌ p q

pub same : {h g p q : List ℕ} {c e : ℕ} → h ≡ g → p ≡ q → c ≡ e
    → ◌≡◌ {A = Hasher} (record { words = h; pending = p; count = c }) (record { words = g; pending = q; count = e })
same u v w = cc

-- ---- blocks

block_front : (a b : List ℕ) (i : ℕ) → 64 * i + 64 ≤ length a → block (a ++ b) i ≡ block a i
unfolding block
block_front a b i h =
    ap (take 64) (drop-append-le (64 * i) a b (omega arith)) ∙ take-append-le 64 (drop (64 * i) a) b (rw length-drop (omega arith))

block_drop : (p : List ℕ) (a i : ℕ) → block (drop (64 * a) p) i ≡ block p (a + i)
unfolding block
block_drop p a i =
    let e : 64 * a + 64 * i ≡ 64 * (a + i) = omega arith in
    ap (take 64) (drop-drop (64 * i) (64 * a) p ∙ ap (λ x. drop x p) e)

-- the first blocks of a ++ b are those of a
hash_front : (h a b : List ℕ) (i : ℕ) → 64 * i ≤ length a → hash h (a ++ b) i ≡ hash h a i
unfolding hash
hash_front h a b zero e = refl
hash_front h a b (suc i) e = ap₂ compress (hash_front h a b i (omega arith)) (ap words (block_front a b i (omega arith)))

-- a blocks, and then b blocks of what is left
hash_add : (h p : List ℕ) (a b : ℕ) → hash (hash h p a) (drop (64 * a) p) b ≡ hash h p (a + b)
unfolding hash
hash_add h p a zero = ap (hash h p) (sym (add-zero a))
hash_add h p a (suc b) = rw add-suc (ap₂ compress (hash_add h p a b) (ap words (block_drop p a b)))

-- ---- states

-- the count is taken modulo 2^64
settle_count : (h b : List ℕ) (k n : ℕ) → k % 2 ^ 64 ≡ n % 2 ^ 64 → settle h b k ≡ settle h b n
unfolding settle
settle_count h b k n e = same refl refl e

-- the first q blocks may be hashed before
settle_drop : (h b : List ℕ) (q n : ℕ) → 64 * q ≤ length b → settle (hash h b q) (drop (64 * q) b) n ≡ settle h b n
unfolding settle
settle_drop h b q n f =
    let l : length (drop (64 * q) b) ≡ length b - 64 * q = length-drop (64 * q) b in
    let e : q + (length b - 64 * q) / 64 ≡ length b / 64 = omega arith in
    let g : 64 * q + 64 * ((length b - 64 * q) / 64) ≡ 64 * (length b / 64) = omega arith in
    let k : 64 - (length b - 64 * q) % 64 ≡ 64 - length b % 64 = omega arith in
    same (ap (λ x. hash (hash h b q) (drop (64 * q) b) (x / 64)) l ∙ hash_add h b q _ ∙ ap (hash h b) e)
    (ap (λ x. drop (64 * (x / 64)) (drop (64 * q) b) ++ replicate (64 - x % 64) 0) l
    ∙ ap₂ (λ x y. x ++ replicate y 0) (drop-drop _ (64 * q) b ∙ ap (λ x. drop x b) g) k)
    refl

-- the whole blocks of b may be hashed before p comes
settle_front : (h b p : List ℕ) (n : ℕ) → settle (hash h b (length b / 64)) (drop (64 * (length b / 64)) b ++ p) n ≡ settle h (b ++ p) n
settle_front h b p n =
    let q : ℕ = length b / 64 in
    let f : length b ≤ length (b ++ p) = rw length-append (omega arith) in
    ap₂ (λ x y. settle x y n) (sym (hash_front h b p q (omega arith))) (sym (drop-append-le (64 * q) b p (omega arith)))
    ∙ settle_drop h (b ++ p) q n (omega arith)

-- a settled state absorbs p
settle_more : (h b p : List ℕ) (n : ℕ) → n % 64 ≡ length b % 64 → absorb_of (settle h b n) p ≡ settle h (b ++ p) (n + length p)
unfolding absorb_of waiting settle
settle_more h b p n e =
    let q : ℕ = length b / 64 in
    let r : List ℕ = drop (64 * q) b in
    let z : List ℕ = replicate (64 - length b % 64) 0 in
    let l : length r ≡ n % 2 ^ 64 % 64 = length-drop (64 * q) b ∙ omega arith in
    let t : take (n % 2 ^ 64 % 64) ((r ++ z) ++ replicate 64 0) ≡ r =
    ap (take (n % 2 ^ 64 % 64)) (append_assoc r z (replicate 64 0)) ∙ take_at r (z ++ replicate 64 0) (n % 2 ^ 64 % 64) l in
    ap (λ x. settle (hash h b q) (x ++ p) (n % 2 ^ 64 + length p)) t
    ∙ settle_front h b p (n % 2 ^ 64 + length p)
    ∙ settle_count h (b ++ p) (n % 2 ^ 64 + length p) (n + length p) (omega arith)

-- ---- the digest

-- the whole blocks of a may be hashed before b comes
pub after_front : (h a b : List ℕ) (n : ℕ)
    → digest_after (hash h a (length a / 64)) (drop (64 * (length a / 64)) a ++ b) n ≡ digest_after h (a ++ b) n
unfolding digest_after settle
after_front h a b n =
    let r : List ℕ = drop (64 * (length a / 64)) a in
    ap (λ (x : List ℕ). bytes (hash (hash h a (length a / 64)) x (length x / 64))) (append_assoc r b (padding n))
    ∙ ap (λ (d : Hasher). bytes d.words) (settle_front h a (b ++ padding n) 0)
    ∙ ap (λ (x : List ℕ). bytes (hash h x (length x / 64))) (sym (append_assoc a b (padding n)))

-- the whole blocks of a message may be hashed before its end
pub after_blocks : (h m : List ℕ) (n : ℕ) → digest_after (hash h m (length m / 64)) (drop (64 * (length m / 64)) m) n ≡ digest_after h m n
unfolding digest_after settle
after_blocks h m n = ap (λ (d : Hasher). bytes d.words) (settle_front h m (padding n) 0)

-- what a leaves is hashed with b
pub hash_front_on : (h a b : List ℕ) → hash_over (hash_over h a) (left_of a ++ b) ≡ hash_over h (a ++ b)
unfolding settle
hash_front_on h a b = ap (λ (d : Hasher). d.words) (settle_front h a b 0)

-- where a is whole blocks nothing of it is left: b is hashed from its hash value on
none_left : (a : List ℕ) → length a % 64 ≡ 0 → drop (64 * (length a / 64)) a ≡ []
none_left a z = drop_of_length-le a {i = 64 * (length a / 64)} (omega arith)

pub hash_on : (h a b : List ℕ) → length a % 64 ≡ 0 → hash_over (hash_over h a) b ≡ hash_over h (a ++ b)
hash_on h a b z = ap (λ (x : List ℕ). hash_over (hash_over h a) (x ++ b)) (sym (none_left a z)) ∙ hash_front_on h a b

-- the message in one place
pub digest_law : (m : List ℕ) → digest_after H0 m (length m) ≡ sha256 m
unfolding digest_after sha256 pad
digest_law m = refl

-- how many bytes wait
pub length_waiting : (d : Hasher) → length (waiting d) ≡ d.count % 64
unfolding waiting
length_waiting d =
    length-take-le (d.count % 64) (d.pending ++ replicate 64 0)
    (let l : length (d.pending ++ replicate 64 0) ≡ length d.pending + 64 = length-append d.pending (replicate 64 0) in
    omega arith)

pub concatenation : ConcatenationLaw
unfolding absorb_of
concatenation d a b =
    let t : List ℕ = waiting d in
    let l : length (t ++ a) ≡ d.count % 64 + length a = length-append t a ∙ ap (λ x. x + length a) (length_waiting d) in
    settle_more d.words (t ++ a) b (d.count + length a) (omega arith)
    ∙ ap₂ (settle d.words) (append_assoc t a b)
    (let s : length (a ++ b) ≡ length a + length b = length-append a b in omega arith)

pub absorb_law : AbsorbLaw
unfolding state_of
absorb_law m p = settle_more H0 m p (length m) refl ∙ ap (settle H0 (m ++ p)) (sym (length-append m p))

-- the length field is that of the length modulo 2^64
pub field_wrap : (x y : ℕ) → x % 2 ^ 64 ≡ y % 2 ^ 64 → big_endian 8 x ≡ big_endian 8 y
unfolding big_endian
field_wrap x y e =
    cons (omega arith) (cons (omega arith) (cons (omega arith) (cons (omega arith) (cons (omega arith) (cons (omega arith) (cons (omega arith) (cons (omega arith) refl)))))))

pub padding_wrap : (n : ℕ) → padding (n % 2 ^ 64) ≡ padding n
unfolding padding zeros
padding_wrap n =
    let z : (119 - n % 2 ^ 64 % 64) % 64 ≡ (119 - n % 64) % 64 = omega arith in
    ap₂ (λ x l. 0x80 ∷ (replicate x 0 ++ l)) z (field_wrap (8 * (n % 2 ^ 64)) (8 * n) (omega arith))

pub finish_law : FinishLaw
unfolding finish_of state_of sha256 pad settle
finish_law m =
    ap (λ x. bytes (absorb_of (state_of m) x).words) (padding_wrap (length m))
    ∙ ap (λ d. bytes d.words) (absorb_law m (padding (length m)))

-- parts after m
absorb_all_lem : (m : List ℕ) (ps : List (List ℕ)) → absorb_all (state_of m) ps ≡ state_of (m ++ joined ps)
unfolding absorb_all joined
absorb_all_lem m [] = ap state_of (sym (append-nil m))
absorb_all_lem m (p ∷ ps) =
    ap (λ d. absorb_all d ps) (absorb_law m p) ∙ absorb_all_lem (m ++ p) ps ∙ ap state_of (append_assoc m p (joined ps))

pub parts_law : PartsLaw
parts_law ps = ap finish_of (absorb_all_lem [] ps) ∙ finish_law (joined ps)

-- ---- for a caller, from what the functions ensure

pub absorbed : {d e : Hasher} (m p : List ℕ) → d ≡ state_of m → e ≡ absorb_of d p → e ≡ state_of (m ++ p)
absorbed m p f g = g ∙ ap (λ x. absorb_of x p) f ∙ absorb_law m p

pub finished : {d : Hasher} {r : List ℕ} (m : List ℕ) → d ≡ state_of m → r ≡ finish_of d → r ≡ sha256 m
finished m f g = g ∙ ap finish_of f ∙ finish_law m
