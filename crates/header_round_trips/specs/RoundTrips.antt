-- Document 01, "The header": what holds between the writer and the reader. Each statement is proved in proofs/.
-- `write_header v out` is all that a call of the writer leaves, by its contract: its answer, and every byte of the output lent to it.
use Rattle.std.specs.Prelude.{◌≡◌, ℕ, ◌^◌, ◌≤◌, ◌<◌, List, ◌++◌, Bool, true, false, ◌↔◌, length, take, drop, replicate}
use Rattle.numbers.specs.Answer.{gives, refused}
use Rattle.header_tags.specs.Bytes.{AllBytes}
use Rattle.header_reader.specs.declared.Header.{Header}
use Rattle.header_reader.specs.Reading.{read_header}
use Rattle.header_writer.specs.Writing.{header_bytes, Write, write, write_header}

-- The values that the code's type of a header holds, with a size that is not 0.
pub record Holdable (v : Header) : Type 0 where
  pub some : v.size ≡ 0 → ⊥
  pub size : v.size < 2 ^ 32
  pub version : v.version < 2 ^ 32
  pub timestamp : v.timestamp < 2 ^ 64
  pub auth_type : v.auth_type < 2 ^ 16
  pub digest : length v.digest ≡ 32
  pub signature : length v.signature ≡ 64
  pub hint : length v.hint ≡ 32

-- The values that a header carries. Without a hint it carries no hint's bytes: they read as 0. Everything else is carried as it is.
abbrev pub carried_hint : Bool → List ℕ → List ℕ
carried_hint true hint = hint
carried_hint false hint = replicate 32 0

abbrev pub carried : Header → Header
carried v =
    record {
      size = v.size;
      version = v.version;
      timestamp = v.timestamp;
      digest = v.digest;
      signature = v.signature;
      auth_type = v.auth_type;
      has_hint = v.has_hint;
      hint = carried_hint v.has_hint v.hint;
    }

-- The writer, called with v and the output `out`, has left w: it took v, wrote the header and nothing else, and u reads back.
pub record RoundTrip (w : Write) (out : List ℕ) (v u : Header) : Type 0 where
  -- The writer takes v: it does not refuse.
  pub taken : w.answer ≡ gives tt
  -- It writes the first 256 bytes: they are the header.
  pub header : take 256 w.bytes ≡ header_bytes v
  -- It writes no other byte: from 256 on, and in its length, the output is as it was.
  pub others : drop 256 w.bytes ≡ drop 256 out
  pub extent : length w.bytes ≡ length out
  -- The output reads as u. So do its first 256 bytes, whatever stands behind them.
  pub back : read_header w.bytes ≡ gives u
  pub alone : (rest : List ℕ) → read_header (take 256 w.bytes ++ rest) ≡ gives u

-- What is written comes back when it is read: of every header that can be held, in every output that has room for it.
abbrev pub WriteThenRead : Type 0
WriteThenRead = (v : Header) → Holdable v → (out : List ℕ) → 256 ≤ length out → RoundTrip (write_header v out) out v (carried v)

-- What was read, once it is written, reads the same: of every buffer of bytes that the reader accepts, in every output that has room.
abbrev pub ReadWriteRead : Type 0
ReadWriteRead =
    (s : List ℕ) → AllBytes s → (v : Header) → read_header s ≡ gives v
    → (out : List ℕ) → 256 ≤ length out → RoundTrip (write_header v out) out v v

-- What the reader gives can be held: so the writer takes every header that the reader gave.
abbrev pub ReadIsHoldable : Type 0
ReadIsHoldable = (s : List ℕ) → AllBytes s → (v : Header) → read_header s ≡ gives v → Holdable v

-- When the writer refuses, and that a refusal changes no byte. Of every header and every output: 16 exactly if the output is
-- shorter than a header; else 3 exactly if the size is 0; else the header is taken. Both refusals leave the output as it was.
pub record WriterRefuses (v : Header) (out : List ℕ) : Type 0 where
  pub short : (write_header v out ≡ write (refused 16 0) out) ↔ (length out < 256)
  pub zero : (write_header v out ≡ write (refused 3 4) out) ↔ ((256 ≤ length out) × (v.size ≡ 0))
  pub taken : ((write_header v out).answer ≡ gives tt) ↔ ((256 ≤ length out) × (v.size ≡ 0 → ⊥))

abbrev pub WhenWriterRefuses : Type 0
WhenWriterRefuses = (v : Header) (out : List ℕ) → WriterRefuses v out

-- The written header has 256 bytes.
abbrev pub WritesHeaderLength : Type 0
WritesHeaderLength = (v : Header) → Holdable v → length (header_bytes v) ≡ 256

-- The premises above can be met: by the header of 01's listing, without a hint and with one. Its digest, signature and hint are all 0.
abbrev pub example : Bool → Header
example hint =
    record {
      size = 256;
      version = 7;
      timestamp = 1700000000;
      digest = replicate 32 0;
      signature = replicate 64 0;
      auth_type = 512;
      has_hint = hint;
      hint = replicate 32 0;
    }

-- It can be held, and what is written of it is a buffer of bytes that the reader accepts.
pub record Met (v : Header) : Type 0 where
  pub holdable : Holdable v
  pub bytes : AllBytes (header_bytes v)
  pub accepted : read_header (header_bytes v) ≡ gives v

abbrev pub PremisesMet : Type 0
PremisesMet = (hint : Bool) → Met (example hint)
