-- The window of loaded nodes not yet reported complete.
pub mod Window
-- what holds of them
pub mod Places
pub mod Where
pub mod Inner
