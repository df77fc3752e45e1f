-- The three lent buffers as one value.
use Rattle.std.specs.Prelude.{◌≡◌, length}
use Rattle.flash.specs.Buffers.{Flash, flash}
use Rattle.exchange_steps.specs.declared.FlashMut.{FlashMut}

-- what the three references hold
abbrev pub bytes : FlashMut → Flash
bytes f = flash f.boot.now f.update.now f.swap.now

-- what every call keeps: the geometry, which buffers the references are to, and their lengths
pub record SameFlash (f f' : FlashMut) : Type 0 where
  pub geometry : f'.geometry ≡ f.geometry
  pub boot : f'.boot.ghost_name ≡ f.boot.ghost_name
  pub update : f'.update.ghost_name ≡ f.update.ghost_name
  pub swap : f'.swap.ghost_name ≡ f.swap.ghost_name
  pub boot_length : length f'.boot.now ≡ length f.boot.now
  pub update_length : length f'.update.now ≡ length f.update.now
  pub swap_length : length f'.swap.now ≡ length f.swap.now
