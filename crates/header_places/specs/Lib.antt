-- The table of tags of document 01, where a header's tags stand (the walk judged by the table), and document 02's "Tags that must be
-- understood".
pub mod Table
pub mod Judging
pub mod RuledOut
pub mod Understood
pub mod Before
