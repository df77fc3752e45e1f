-- What the rules of the exchange name of the flash, passed on as one module: the geometry and the buffers, the status bytes, the flags.
pub use Rattle.flash.specs.declared.Geometry.{Geometry}
pub use Rattle.flash.specs.declared.SectorNumber.{SectorNumber}
pub use Rattle.flash.specs.Sizes.{geometry, partition_size, Limits}
unfoldable pub use Rattle.flash.specs.Sizes.{firmware}
pub use Rattle.flash.specs.Sectors.{sector_number, Partition, sector_of, write_sector, firmware_of}
unfoldable pub use Rattle.flash.specs.Sectors.{erased}
pub use Rattle.flash.specs.Buffers.{Flash, flash, Shaped}
unfoldable pub use Rattle.flash.specs.Buffers.{fits}
pub use Rattle.flash_status.specs.declared.BootStatus.{BootStatus}
pub use Rattle.flash_status.specs.declared.BootStatus.TheVariants.{New as BootNew, Testing, Success}
pub use Rattle.flash_status.specs.declared.UpdateStatus.{UpdateStatus}
pub use Rattle.flash_status.specs.declared.UpdateStatus.TheVariants.{New as UpdateNew, Updating}
pub use Rattle.flash_status.specs.StatusBytes.{boot_byte, boot_status_at, set_boot_status, update_byte, update_status_at, set_update_status}
unfoldable pub use Rattle.flash_status.specs.StatusBytes.{status_byte, boot_status_of, update_status_of}
pub use Rattle.flash_flags.specs.declared.Flag.{Flag}
pub use Rattle.flash_flags.specs.declared.Flag.TheVariants.{Untouched, Saved, Moved, Exchanged}
pub use Rattle.flash_flags.specs.declared.Leg.{Leg}
pub use Rattle.flash_flags.specs.declared.Leg.TheVariants.{UpdateToSwap, BootToUpdate, SwapToBoot}
pub use Rattle.flash_flags.specs.declared.Flags.{Flags}
pub use Rattle.flash_flags.specs.declared.Flags.TheVariants.{Malformed, AllF, At, All0}
pub use Rattle.flash_flags.specs.SectorFlags.{flag_value, flag_rank, moved}
unfoldable pub use Rattle.flash_flags.specs.SectorFlags.{flag_of, flag_byte, half, flag_at, set_flag, flags_from, flags, all_f, past_zeros, flags_shown, flags_at}
