-- The values of a release sheet: those of document 01's header that the firmware does not give.
use Rattle.std.specs.Prelude.{◌≡◌, ℕ, ◌^◌, ◌<◌, Bool, true, false, List, length, replicate}
use Rattle.release_values.specs.declared.Stated.{Stated}

-- The values beside a refusal: blank, so that none comes from an earlier sheet.
abbrev pub blank : Stated
blank =
    record {
      version = 0;
      timestamp = 0;
      auth_type = 0;
      signature = replicate 64 0;
      has_hint = false;
      hint = replicate 32 0;
    }

-- The values that the code's type holds, each within its width; without a hint the hint's bytes are 0.
pub record Statable (v : Stated) : Type 0 where
  pub version : v.version < 2 ^ 32
  pub timestamp : v.timestamp < 2 ^ 64
  pub auth_type : v.auth_type < 2 ^ 16
  pub signature : length v.signature ≡ 64
  pub hint : length v.hint ≡ 32
  pub no_hint : v.has_hint ≡ false → v.hint ≡ replicate 32 0
