-- Secrecy said of boxes, and boxes of slots by the words of their caches.
pub mod BoxSecrecy
pub mod BoxLaws
